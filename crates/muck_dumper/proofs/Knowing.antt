-- The history that the dumper's seat knows, and what others enter meanwhile.
use Rattle.std.proofs.Common.{◌≡◌, List, [], ◌∷◌, ◌++◌, refl, sym, ◌∙◌, ap, subst, append-nil}
use Rattle.turn_lock.specs.Histories.{StartsWith, own_of}
use Rattle.muck_model.specs.declared.note.Note.{Note}
use Rattle.spec_events.specs.declared.logged.Logged.{Logged}
use Rattle.spec_events.specs.World.{World}
use Rattle.spec_events.specs.Histories.{History, Grew}
use Rattle.spec_events.specs.Logged.{logged, logged_by, entries_of, notes_of, history_of, IsSettled, IsPlaced}
use Rattle.spec_events.proofs.Logging.{rebuilt, entries_append, notes_append}
use Rattle.spec_dumps.specs.inner.Holding.{Quietly}
use Rattle.spec_dumps.proofs.Quiet.{quiet_grew}
use Rattle.muck_work.specs.declared.Beginning.{Beginning}
use Rattle.muck_work.specs.inner.Beginnings.{beginning, begun, IsBegun}
use Rattle.muck_work.specs.inner.Seats.{Chair, AllOrderly, Rests}
use Rattle.muck_work.proofs.Seating.{orderly_back, others_none, others_quiet, settled_begun}
use Rattle.muck_work.specs.inner.Holds.{HasTurn}
use Rattle.muck_work.proofs.Holding.{others_since}
use Rattle.muck_dumper.specs.inner.Dumping.{history_from, history_seen, IsKnown}

-- a history that goes on with others' items
grown : (w : World) (m : Note) (a rest : List Logged) → notes_of rest ≡ [] → Grew (history_of w m a) (history_of w m (a ++ rest)) (entries_of rest)
grown w m a rest none = record {
  start = refl;
  entries = entries_append a rest;
  notes = ap (λ (ns : List Note). m ∷ ns) (notes_append a rest ∙ ap (λ (ns : List Note). notes_of a ++ ns) none ∙ append-nil (notes_of a));
}

-- What is longer by others' items alone has no further dump.
pub others_go_on : (w : World) (m : Note) (a b : List Logged) → StartsWith b a → AllOrderly b → own_of logged_by 9 b ≡ own_of logged_by 9 a → Quietly (history_of w m a) (history_of w m b)
others_go_on w m a b front all mine =
    let rest = front.0 in
    let none : own_of logged_by 9 rest ≡ [] = others_none 9 a rest (ap (own_of logged_by 9) (sym front.1) ∙ mine) in
    let quiet = others_quiet rest (orderly_back a rest (subst AllOrderly front.1 all)) none in
    subst (λ (ls : List Logged). Quietly (history_of w m a) (history_of w m ls)) (sym front.1) (quiet_grew (history_of w m a) (history_of w m (a ++ rest)) (entries_of rest) quiet.0 (grown w m a rest quiet.1))

pub from_begun : (root : List Beginning) (w : World) (m : Note) (ls : List Logged) → root ≡ begun w m ∷ [] → history_from root ls ≡ history_of w m ls
from_begun root w m ls is = ap (λ (bs : List Beginning). history_from bs ls) is

-- a world that is settled is the one that its items tell
pub told_by : (w : World) (m : Note) (h : History) → IsSettled m h → IsPlaced h → h.start ≡ w → h ≡ history_of w m (logged h)
told_by w m h settled placed start = sym (rebuilt m h settled placed) ∙ ap (λ (x : World). history_of x m (logged h)) start

-- The whole history, once it is known, goes on without a dump from what the dumper knew of it.
pub closed_quiet : (root : List Beginning) (known : List Logged) (h : History) (begins : IsBegun root) → beginning h ∷ [] ≡ root → IsPlaced h → StartsWith (logged h) known → AllOrderly (logged h) →
    own_of logged_by 9 (logged h) ≡ own_of logged_by 9 known → Quietly (history_from root known) h
closed_quiet root known h begins start placed front all mine =
    let w = begins.world in
    let m = begins.mounting in
    let at : beginning h ≡ begun w m = same (start ∙ begins.is) in
    let whole : h ≡ history_of w m (logged h) = told_by w m h (settled_begun w m h at) placed (ap (λ (b : Beginning). b.world) at) in
    subst (λ (x : History). Quietly x h) (sym (from_begun root w m known begins.is))
    (subst (λ (x : History). Quietly (history_of w m known) x) (sym whole) (others_go_on w m known (logged h) front all mine))
  where
    same : {a b : Beginning} → ◌≡◌ {A = List Beginning} (a ∷ []) (b ∷ []) → a ≡ b
    same e = cc

-- In a hold the world goes on so from what the seat had seen.
pub held_quiet : (me me' : Chair) (h : History) → HasTurn 9 me me' h → Quietly (history_seen me.0) h
held_quiet me me' h t =
    closed_quiet me.0.root me.0.seen h t.rests.begun (t.root ∙ t.waited.5) t.placed (t.waited.0.0, t.seen ∙ t.waited.0.1) (subst AllOrderly (sym t.seen) t.orderly)
    (ap (own_of logged_by 9) (t.seen ∙ t.waited.0.1) ∙ others_since 9 me me' h t)

-- And where it has been given back the seat has seen it whole.
pub given_known : (me' : Chair) (k : History) (begins : IsBegun me'.0.root) → beginning k ∷ [] ≡ me'.0.root → IsPlaced k → me'.0.seen ≡ logged k → history_seen me'.0 ≡ k
given_known me' k begins start placed seen =
    let w = begins.world in
    let m = begins.mounting in
    let at : beginning k ≡ begun w m = same (start ∙ begins.is) in
    from_begun me'.0.root w m me'.0.seen begins.is
    ∙ ap (history_of w m) seen
    ∙ sym (told_by w m k (settled_begun w m k at) placed (ap (λ (b : Beginning). b.world) at))
  where
    same : {a b : Beginning} → ◌≡◌ {A = List Beginning} (a ∷ []) (b ∷ []) → a ≡ b
    same e = cc

-- a seat at rest knows all that it has seen
pub rests_known : (me : Chair) → Rests 9 me → IsKnown me.0.seen me.0
rests_known me r = record { front = ([], sym (append-nil me.0.seen)); mine = r.own; orderly = r.orderly }
