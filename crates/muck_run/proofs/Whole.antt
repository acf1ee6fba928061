-- Whole runs on the world of a store, and runs that broke off.
use Rattle.std.proofs.Common.{◌≡◌, ℕ, ◌+◌, ◌<◌, ◌≤◌, Bool, true, false, List, [], ◌∷◌, ◌++◌, length, take, refl, sym, ◌∙◌, ap, subst, arith, append-nil, append_assoc, Option, Some, None, Result, Ok, Err}
use Rattle.muck_script.proofs.Cuts.{script_long}
use Rattle.std.proofs.lemmas.Bool.{ltb-true, ltb-false, cond-true, cond-false}
use Rattle.std.proofs.lemmas.List.{take_all, drop_all, length-take}
use Rattle.std.specs.Prelude.{nat_lt}
use Rattle.muck_io.specs.Source.{HasReadAll}
use Rattle.muck_model.specs.declared.event.Entry.{Entry}
use Rattle.muck_model.specs.declared.event.Event.TheVariants.{Halt, Died}
use Rattle.muck_model.specs.declared.note.Note.{Note}
use Rattle.spec_events.specs.World.{World}
use Rattle.spec_events.specs.Histories.{History, after, now, entered, Longer, by_porter}
use Rattle.spec_events.proofs.Runs.{longer_nothing, longer_one, longer_as, now-longer}
use Rattle.muck_script.specs.declared.act.Act.{Act}
use Rattle.muck_script.specs.Script.{script_of, script_most, read_part, refused_at, acts_of}
use Rattle.muck_script.specs.Lines.{lines_of}
use Rattle.muck_script.specs.Story.{Part, both_parts, dump_part, outcomes_of, transcript_of, lines_story, story}
use Rattle.muck_why.specs.declared.why.Why.TheVariants.{NoMemory, WriteFault}
use Rattle.muck_run.specs.declared.playing.RunFault.{RunFault}
use Rattle.muck_run.specs.inner.Plays.{Plays, Breaks, ending_of}
use Rattle.muck_run.proofs.Parts.{appends_as, plays_both, breaks_first, breaks_second}
use Rattle.muck_run.specs.inner.Dumps.{DumpsLast}
use Rattle.muck_run.specs.Outcome.{PlayedWhole, BrokeOff, IsScriptIn, IsReadOut, IsFirstOutsideScript, halted}

-- a run begins in this world, with the note of the mounting
abbrev pub begun : World → Note → History
begun w note = record { start = w; entries = []; notes = note ∷ []; counted = None }

pub begun_now : (h : History) (w : World) (note : Note) → h ≡ begun w note → now h ≡ w
unfolding now
begun_now h w note e = ap (λ (x : History). now x) e

-- the world where a run ends is the one after its tale
module _ (w : World) (note : Note) (acts : List Act) (h : History) (is : h ≡ begun w note) where
  -- the script was played whole, and the last dump was made
  pub played_whole : (k m : History) (a b : Option (List ℕ)) (tale : List Entry) → Plays (lines_story acts) h k a b → Plays dump_part k m b b → tale ≡ m.entries → PlayedWhole w acts a b tale
  played_whole k m a b tale p d end =
      let P : History → Type 0 = λ x. Plays (both_parts (lines_story acts) dump_part) x m a b in
      let q : Plays (both_parts (lines_story acts) dump_part) (begun w note) m a b = subst P is (plays_both (lines_story acts) dump_part h k m a b b p d) in
      let start = begun_now (begun w note) w note refl in
      let all : tale ≡ q.entries = end ∙ q.history.entries in
      let whole : q.entries ≡ story acts (outcomes_of q.entries) w =
      sym (q.said []) ∙ ap (λ os. story acts os (now (begun w note))) (append-nil (outcomes_of q.entries)) ∙ ap (story acts (outcomes_of q.entries)) start in
      let W : List Entry → Type 0 = λ es. es ≡ story acts (outcomes_of es) w in
      let told : tale ≡ story acts (outcomes_of tale) w = subst W (sym all) whole in
      record { history = told; text = appends_as a b _ _ (ap (λ (x : World). transcript_of x q.entries) start ∙ ap (transcript_of w) (sym all ∙ told)) q.text }

  -- memory was wanted
  died_at : (m : History) (a b : Option (List ℕ)) (tale : List Entry) → Breaks (both_parts (lines_story acts) dump_part) (by_porter Died ∷ []) h m a b → tale ≡ m.entries → BrokeOff w NoMemory acts a b tale
  died_at m a b tale p end =
      let P : History → Type 0 = λ x. Breaks (both_parts (lines_story acts) dump_part) (by_porter Died ∷ []) x m a b in
      let q : Breaks (both_parts (lines_story acts) dump_part) (by_porter Died ∷ []) (begun w note) m a b = subst P is p in
      let start = begun_now (begun w note) w note refl in
      record {
        front = q.front;
        pending = q.pending;
        began = q.began;
        whole = λ later. let part = q.whole later in (part.0, part.1 ∙ ap (story acts (outcomes_of q.front ++ (q.pending ++ later))) start);
        ending = by_porter Died ∷ [];
        ends = refl;
        history = end ∙ q.history.entries;
        told = q.told;
        untold = q.untold;
        text = q.text ∙ ap (λ (x : World). transcript_of x q.front) start;
        appended = q.appended;
      }

  pub died_playing : (m : History) (a b : Option (List ℕ)) (tale : List Entry) → Breaks (lines_story acts) (by_porter Died ∷ []) h m a b → tale ≡ m.entries → BrokeOff w NoMemory acts a b tale
  died_playing m a b tale p end = died_at m a b tale (breaks_first (lines_story acts) dump_part (by_porter Died ∷ []) h m a b p) end

  pub died_dumping : (k m : History) (a b : Option (List ℕ)) (tale : List Entry) → Plays (lines_story acts) h k a b → Breaks dump_part (by_porter Died ∷ []) k m b b → tale ≡ m.entries → BrokeOff w NoMemory acts a b tale
  died_dumping k m a b tale p d end = died_at m a b tale (breaks_second (lines_story acts) dump_part (by_porter Died ∷ []) h k m a b b p d) end

  -- the sink failed: the world was halted, and dumped all the same
  pub halted_off : (k l m : History) (a b : Option (List ℕ)) (tale : List Entry) → Breaks (lines_story acts) [] h k a b → Longer k l (halted (now k)) → DumpsLast l m → tale ≡ m.entries → BrokeOff w WriteFault acts a b tale
  halted_off k l m a b tale p stops dump end =
      let P : History → Type 0 = λ x. Breaks (both_parts (lines_story acts) dump_part) [] x k a b in
      let q : Breaks (both_parts (lines_story acts) dump_part) [] (begun w note) k a b = subst P is (breaks_first (lines_story acts) dump_part [] h k a b p) in
      let start = begun_now (begun w note) w note refl in
      let same : k.entries ≡ q.front = q.history.entries ∙ append-nil q.front in
      let there : now k ≡ after w q.front = now-longer (begun w note) k (q.front ++ []) q.history ∙ ap (after (now (begun w note))) (append-nil q.front) ∙ ap (λ (x : World). after x q.front) start in
      record {
        front = q.front;
        pending = q.pending;
        began = q.began;
        whole = λ later. let part = q.whole later in (part.0, part.1 ∙ ap (story acts (outcomes_of q.front ++ (q.pending ++ later))) start);
        ending = halted (after w q.front) ++ dump.0;
        ends = (dump.0, refl, dump.2);
        history =
            end ∙ dump.1.entries ∙ ap (λ es. es ++ dump.0) (stops.entries ∙ ap (λ es. es ++ halted (now k)) same ∙ ap (λ (x : World). q.front ++ halted x) there)
            ∙ append_assoc q.front (halted (after w q.front)) dump.0;
        told = q.told;
        untold = q.untold;
        text = q.text ∙ ap (λ (x : World). transcript_of x q.front) start;
        appended = q.appended;
      }

-- the ending of a run by its fault
pub broke_by : (f : Part) (h k : History) (a b : Option (List ℕ)) (fault is : RunFault) → fault ≡ is → Breaks f (ending_of fault) h k a b → Breaks f (ending_of is) h k a b
broke_by f h k a b fault is e p = let P : RunFault → Type 0 = λ x. Breaks f (ending_of x) h k a b in subst P e p

-- a world that isn't stopping is halted, and one that is stays as it is
pub halts : (h k : History) → (now h).stopping ≡ false → k ≡ entered h (by_porter Halt) → Longer h k (halted (now h))
halts h k e is = longer_as h k (by_porter Halt ∷ []) _ (sym (cond-false _ _ _ e)) (longer_one h k (by_porter Halt) is)

pub stands : (h : History) → (now h).stopping ≡ true → Longer h h (halted (now h))
stands h e = longer_as h h [] _ (sym (cond-true _ _ _ e)) (longer_nothing h h refl)

-- What is read of the source decides what its script is.

short : (left : List ℕ) → length left ≤ script_most → script_of (read_part left) ≡ script_of left
short left h = let all : length left ≤ script_most + 1 = omega (arith, h) in ap script_of (take_all (script_most + 1) left all)

read_twice : (left : List ℕ) → script_most < length left → read_part (read_part left) ≡ read_part left
read_twice left h =
    let n : length (read_part left) ≤ script_most + 1 = omega (arith, length-take (script_most + 1) left) in
    take_all (script_most + 1) (read_part left) n

long : (left : List ℕ) → script_most < length left → script_of (read_part left) ≡ script_of left
long left h =
    let some : script_most < length (read_part left) = omega (arith, length-take (script_most + 1) left, h) in
    script_long (read_part left) some ∙ ap (λ bytes. refused_at (length (lines_of bytes)) (acts_of bytes)) (read_twice left h) ∙ sym (script_long left h)

same_script : (left : List ℕ) → script_of (read_part left) ≡ script_of left
same_script left = decide (nat_lt script_most (length left)) refl where
  decide : (b : Bool) → nat_lt script_most (length left) ≡ b → script_of (read_part left) ≡ script_of left
  decide true e = long left (ltb-true _ _ e)
  decide false e = short left (ltb-false _ _ e)

not_ok : (n : ℕ) (r : Result (List Act) ℕ) (acts : List Act) → refused_at n r ≡ Ok acts → ⊥
not_ok n (Ok x) acts e = cc
not_ok n (Err m) acts e = cc

-- a script isn't too long
within : (bytes : List ℕ) (acts : List Act) → script_of bytes ≡ Ok acts → length bytes ≤ script_most
within bytes acts e = decide (nat_lt script_most (length bytes)) refl where
  decide : (b : Bool) → nat_lt script_most (length bytes) ≡ b → length bytes ≤ script_most
  decide true h = absurd (not_ok (length (lines_of (read_part bytes))) (acts_of (read_part bytes)) acts (sym (script_long bytes (ltb-true _ _ h)) ∙ e))
  decide false h = ltb-false _ _ h

pub script_in : (left now : Option (List ℕ)) (most : ℕ) (bytes : List ℕ) (acts : List Act) → most ≡ script_most + 1 → HasReadAll left now most bytes → script_of bytes ≡ Ok acts → IsScriptIn left acts
script_in None now most bytes acts m h e = tt
script_in (Some left) now most bytes acts m h e = sym (same_script left) ∙ ap (λ n. script_of (take n left)) (sym m) ∙ ap script_of (sym h.0) ∙ e

pub first_outside : (left now : Option (List ℕ)) (most : ℕ) (bytes : List ℕ) (line : ℕ) → most ≡ script_most + 1 → HasReadAll left now most bytes → script_of bytes ≡ Err line → IsFirstOutsideScript left line
first_outside None now most bytes line m h e = tt
first_outside (Some left) now most bytes line m h e = sym (same_script left) ∙ ap (λ n. script_of (take n left)) (sym m) ∙ ap script_of (sym h.0) ∙ e

pub read_out : (left now : Option (List ℕ)) (most : ℕ) (bytes : List ℕ) (acts : List Act) → most ≡ script_most + 1 → HasReadAll left now most bytes → script_of bytes ≡ Ok acts → IsReadOut left now
read_out None now most bytes acts m h e = tt
read_out (Some left) now most bytes acts m h e =
    let few : length left ≤ most = omega (arith, m, within left acts (script_in (Some left) now most bytes acts m h e)) in
    h.1 ∙ ap Some (drop_all most left few)

-- what the code reads at the most
pub read_part_most : 16777217 ≡ script_most + 1
unfolding script_most
read_part_most = refl
