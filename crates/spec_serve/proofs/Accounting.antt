-- The account of one link, step by step.
use Rattle.std.proofs.Common.{true≢false, ◌≡◌, ℕ, zero, suc, ◌<◌, ◌≤◌, true, List, [], ◌∷◌, ◌++◌, length, take, drop, refl, sym, ap, ◌∙◌, subst, append_assoc, arith, length-append, Option, None}
use Rattle.std.specs.Prelude.{is_some, is_none}
use Rattle.std.proofs.lemmas.List.{append-nil}
use Rattle.muck_io.specs.Faults.{one_more}
use Rattle.muck_links.specs.inner.Cutting.{Cut, Rest, fresh, cut_lines, cut_rest, fed}
use Rattle.muck_links.proofs.Cuts.{lines_append, rest_append, cut_is_lines}
use Rattle.muck_links.specs.Sessions.{Session, accepted, with_read, with_end, with_fault, with_written, with_refusal, shut}
use Rattle.spec_events.specs.World.{World}
use Rattle.spec_talks.specs.Talks.{Talk, talk_begun, line_heard, given_out, ended_in}
use Rattle.spec_serve.specs.Marks.{LinksNote}
use Rattle.spec_serve.specs.Accounts.{WorkedOff, Cause, Agrees, ClosedWell}
use Rattle.spec_serve.specs.inner.Keeping.{Peer, Keeps, new_peer}
use Rattle.spec_serve.proofs.Marks.{passed_more, passed_first}

-- what is kept is promised
pub keeps_agrees : (counted : LinksNote) (p : Peer) (t : Talk) (s : Session) → Keeps counted p t s → Agrees counted t s
keeps_agrees counted p t s k =
    let len = ap length k.bytes in
    let two = length-append s.written p.unsent in
    let lack = k.lack in
    record {
      number = k.talk_number ∙ sym k.link_number;
      lines = (p.cut.ready, sym (cut_is_lines s.read) ∙ sym k.lines);
      bytes = (p.unsent, k.bytes);
      lack = omega arith;
      closing = subst (λ (o : Option World). ClosedWell counted o t s) (sym k.not_closed) tt;
      in_use = k.in_use ∙ sym (ap is_none k.not_closed);
    }

-- a connection was opened, while there is no note
pub keeps_new : (d : ℕ) → Keeps None (new_peer d) (talk_begun d) (accepted d)
keeps_new d = record {
  talk_number = refl;
  link_number = refl;
  not_closed = refl;
  in_use = refl;
  lines = refl;
  rest = refl;
  bytes = refl;
  lack = omega arith;
  ended = (refl, refl);
  stalled = (refl, refl);
  faulted = λ e. absurd (true≢false (sym e));
}

-- bytes came, and were cut
pub keeps_read : (counted : LinksNote) (p : Peer) (t : Talk) (s : Session) (bytes : List ℕ) (c : Cut) → c ≡ fed p.cut bytes → Keeps counted p t s
    → Keeps counted (record p { cut = c }) t (with_read bytes s)
keeps_read counted p t s bytes c is k = record {
  talk_number = k.talk_number;
  link_number = k.link_number;
  not_closed = k.not_closed;
  in_use = k.in_use;
  lines = ap (λ (x : Cut). t.entered ++ x.ready) is
      ∙ sym (append_assoc t.entered p.cut.ready (cut_lines p.cut.rest bytes))
      ∙ ap (λ (l : List (List ℕ)). l ++ cut_lines p.cut.rest bytes) k.lines
      ∙ ap (λ (r : Rest). cut_lines fresh s.read ++ cut_lines r bytes) k.rest
      ∙ sym (lines_append fresh s.read bytes);
  rest = ap (λ (x : Cut). x.rest) is ∙ ap (λ (r : Rest). cut_rest r bytes) k.rest ∙ sym (rest_append fresh s.read bytes);
  bytes = k.bytes;
  lack = k.lack;
  ended = k.ended;
  stalled = k.stalled;
  faulted = k.faulted;
}

-- a read answered the end
pub keeps_end : (counted : LinksNote) (p : Peer) (t : Talk) (s : Session) → Keeps counted p t s → Keeps counted (record p { ended = true }) t (with_end s)
keeps_end counted p t s k = record {
  talk_number = k.talk_number;
  link_number = k.link_number;
  not_closed = k.not_closed;
  in_use = k.in_use;
  lines = k.lines;
  rest = k.rest;
  bytes = k.bytes;
  lack = k.lack;
  ended = passed_first p.ended p.refused s.ended s.refused k.ended;
  stalled = k.stalled;
  faulted = k.faulted;
}

-- a read or a write failed
pub keeps_fault : (counted : LinksNote) (p : Peer) (t : Talk) (s : Session) → Keeps counted p t s → Keeps counted (record p { faulted = true }) t (with_fault s)
keeps_fault counted p t s k = record {
  talk_number = k.talk_number;
  link_number = k.link_number;
  not_closed = k.not_closed;
  in_use = k.in_use;
  lines = k.lines;
  rest = k.rest;
  bytes = k.bytes;
  lack = k.lack;
  ended = k.ended;
  stalled = k.stalled;
  faulted = λ e. at_least_one s.faults;
}
  where
    at_least_one : (n : ℕ) → 0 < one_more n
    at_least_one n = omega arith

-- bytes went
pub keeps_written : (counted : LinksNote) (p : Peer) (t : Talk) (s : Session) (n : ℕ) → Keeps counted p t s → Keeps counted (record p { unsent = drop n p.unsent }) t (with_written (take n p.unsent) s)
keeps_written counted p t s n k = record {
  talk_number = k.talk_number;
  link_number = k.link_number;
  not_closed = k.not_closed;
  in_use = k.in_use;
  lines = k.lines;
  rest = k.rest;
  bytes = k.bytes ∙ ap (λ (l : List ℕ). s.written ++ l) (sym (both n p.unsent)) ∙ sym (append_assoc s.written (take n p.unsent) (drop n p.unsent));
  lack = (let a = k.lack in let b = shorter n p.unsent in omega arith);
  ended = k.ended;
  stalled = k.stalled;
  faulted = k.faulted;
}
  where
    both : (m : ℕ) (xs : List ℕ) → take m xs ++ drop m xs ≡ xs
    both zero xs = refl
    both (suc m) [] = refl
    both (suc m) (x ∷ xs) = ap (λ (l : List ℕ). x ∷ l) (both m xs)

    shorter : (m : ℕ) (xs : List ℕ) → length (drop m xs) ≤ length xs
    shorter zero xs = omega arith
    shorter (suc m) [] = omega arith
    shorter (suc m) (x ∷ xs) = let a = shorter m xs in omega arith

-- a write was refused: after the end that is remembered, and after the note, where there is one
pub keeps_refusal : (counted : LinksNote) (p : Peer) (t : Talk) (s : Session) → Keeps counted p t s → Keeps counted (record p { refused = p.ended; stalled = is_some counted }) t (with_refusal s)
keeps_refusal counted p t s k = record {
  talk_number = k.talk_number;
  link_number = k.link_number;
  not_closed = k.not_closed;
  in_use = k.in_use;
  lines = k.lines;
  rest = k.rest;
  bytes = k.bytes;
  lack = k.lack;
  ended = passed_more p.ended p.refused s.ended s.refused k.ended;
  stalled = passed_more (is_some counted) p.stalled _ s.refused k.stalled;
  faulted = k.faulted;
}

-- a line was entered
pub keeps_heard : (counted : LinksNote) (p : Peer) (t : Talk) (s : Session) (line : List ℕ) (more : List (List ℕ)) → p.cut.ready ≡ line ∷ more → Keeps counted p t s
    → Keeps counted (record p { cut = record { ready = more; rest = p.cut.rest } }) (line_heard line t) s
keeps_heard counted p t s line more is k = record {
  talk_number = k.talk_number;
  link_number = k.link_number;
  not_closed = k.not_closed;
  in_use = k.in_use;
  lines = append_assoc t.entered (line ∷ []) more ∙ ap (λ (l : List (List ℕ)). t.entered ++ l) (sym is) ∙ k.lines;
  rest = k.rest;
  bytes = k.bytes;
  lack = k.lack;
  ended = k.ended;
  stalled = k.stalled;
  faulted = k.faulted;
}

-- bytes were taken, where none was kept
pub keeps_taken : (counted : LinksNote) (p : Peer) (t : Talk) (s : Session) (bytes : List ℕ) (n : ℕ) → p.unsent ≡ [] → length bytes ≤ n → Keeps counted p t s
    → Keeps counted (record p { unsent = bytes }) (given_out bytes n t) s
keeps_taken counted p t s bytes n none_kept le k = record {
  talk_number = k.talk_number;
  link_number = k.link_number;
  not_closed = k.not_closed;
  in_use = k.in_use;
  lines = k.lines;
  rest = k.rest;
  bytes = ap (λ (l : List ℕ). l ++ bytes) (k.bytes ∙ ap (λ (l : List ℕ). s.written ++ l) none_kept ∙ append-nil s.written);
  lack = le;
  ended = k.ended;
  stalled = k.stalled;
  faulted = k.faulted;
}

-- it was closed for a cause
pub keeps_closed : (counted : LinksNote) (p : Peer) (t : Talk) (s : Session) (w : World) → Cause counted w t s → Keeps counted p t s → Agrees counted (ended_in w t) (shut s)
keeps_closed counted p t s w cause k =
    let a = keeps_agrees counted p t s k in
    record { number = a.number; lines = a.lines; bytes = a.bytes; lack = a.lack; closing = after_all cause; in_use = refl }
  where
    worked : WorkedOff counted w t s → WorkedOff counted w (ended_in w t) (shut s)
    worked (WorkedOff.done a b c) = WorkedOff.done a b c
    worked (WorkedOff.refused n a b) = WorkedOff.refused n a b
    worked (WorkedOff.stalled a n b c) = WorkedOff.stalled a n b c

    after_all : Cause counted w t s → Cause counted w (ended_in w t) (shut s)
    after_all (Cause.faulted a) = Cause.faulted a
    after_all (Cause.left a b c) = Cause.left a b c
    after_all (Cause.tied n a b c) = Cause.tied n a b c
    after_all (Cause.ended n a b c) = Cause.ended n a b (worked c)
    after_all (Cause.stopped a b) = Cause.stopped a (worked b)

-- bytes were read and lost
pub agrees_read : (counted : LinksNote) (p : Peer) (t : Talk) (s : Session) (bytes : List ℕ) → Keeps counted p t s → Agrees counted t (with_read bytes s)
agrees_read counted p t s bytes k =
    let a = keeps_agrees counted p t s k in
    let more = cut_lines (cut_rest fresh s.read) bytes in
    record {
      number = a.number;
      lines = (
        p.cut.ready ++ more,
        sym (cut_is_lines (s.read ++ bytes)) ∙ lines_append fresh s.read bytes
            ∙ ap (λ (l : List (List ℕ)). l ++ more) (sym k.lines)
            ∙ append_assoc t.entered p.cut.ready more,
      );
      bytes = a.bytes;
      lack = a.lack;
      closing = subst (λ (o : Option World). ClosedWell counted o t (with_read bytes s)) (sym k.not_closed) tt;
      in_use = a.in_use;
    }
