-- Turns of a party at a seat.
use Rattle.std.proofs.Common.{◌≡◌, ℕ, inl, inr, suc, zero, Bool, true, false, ◌||◌, ◌==◌, List, [], ◌∷◌, ◌++◌, length, refl, sym, ap, ◌∙◌, subst, arith, Option, None, append_assoc}
use Rattle.std.specs.List.{list_any}
use Rattle.std.proofs.lemmas.Bool.Decides.{nat_tests}
use mathlib.Core.Option.{some}
use lib.ListN.{get_elem?}
use Rattle.turn_lock.specs.Histories.{entry_kept, own_of, StartsWith}
use Rattle.turn_lock.specs.declared.view.Place.TheVariants.{Idle, Told}
use Rattle.turn_lock.proofs.Parts.{own_append, own_mine}
use Rattle.muck_model.specs.declared.event.Entry.{Entry}
use Rattle.muck_model.specs.declared.note.Note.{Note}
use Rattle.muck_model.specs.declared.note.Count.{Count}
use Rattle.spec_events.specs.declared.logged.Logged.{Logged}
use Rattle.spec_events.specs.World.{World}
use Rattle.spec_events.specs.Histories.{History, entered, noted, links_noted}
use Rattle.spec_events.specs.Logged.{is_dump, logged, loose_count, IsSettled, bare_item, noted_item, counted_item, logged_by, entries_of, notes_of, NoCounts, IsPlaced, IsOrderly}
use Rattle.spec_events.proofs.Logging.{logged_bare, logged_with_note, logged_with_counts, settled_bare, settled_with_note, settled_with_counts, rebuilt, no_count}
use Rattle.muck_machine.specs.declared.beginning.Beginning.{Beginning}
use Rattle.muck_machine.specs.inner.Beginnings.{beginning, begun, IsBegun}
use Rattle.muck_machine.specs.inner.Seats.{Sight, Chair, OneMore, AllOrderly, Rests, Left, Waited, Turned}

-- Histories that are shared.

-- what is begun so is settled
pub settled_begun : (w : World) (m : Note) (h : History) → beginning h ≡ begun w m → IsSettled m h
settled_begun w m h is = record { notes = ap (λ (b : Beginning). b.notes) is; counted = ap (λ (b : Beginning). b.counted) is }

pub begun_settled : (m : Note) (h : History) → IsSettled m h → beginning h ≡ begun h.start m
begun_settled m h s =
    ap (λ (ns : List Note). let b : Beginning = record { world = h.start; notes = ns; counted = loose_count h } in b) s.notes
    ∙ ap (λ (o : Option (List Count)). let b : Beginning = record { world = h.start; notes = m ∷ []; counted = o } in b) s.counted

same_beginning : (m : Note) (h k : History) → IsSettled m h → IsSettled m k → k.start ≡ h.start → beginning k ≡ beginning h
same_beginning m h k s t is = begun_settled m k t ∙ ap (λ (w : World). begun w m) is ∙ sym (begun_settled m h s)

-- an entry without a note
pub one_bare : (m : Note) (h k : History) (e : Entry) → IsSettled m h → k ≡ entered h e → OneMore h k (bare_item e)
one_bare m h k e s is = subst (λ (x : History). OneMore h x (bare_item e)) (sym is)
    (record { logged = logged_bare m h e s; beginning = same_beginning m h (entered h e) s (settled_bare m h e s) refl })

-- with a note of the disks
pub one_noted : (m : Note) (h k : History) (x : Note) (e : Entry) → IsSettled m h → x.entries ≡ length h.entries → k ≡ entered (noted h x) e → OneMore h k (noted_item x e)
one_noted m h k x e s at is = subst (λ (y : History). OneMore h y (noted_item x e)) (sym is)
    (record { logged = logged_with_note m h x e s at; beginning = same_beginning m h (entered (noted h x) e) s (settled_with_note m h x e s at) refl })

-- with the note of the links, where there was none
pub one_counted : (m : Note) (h k : History) (cs : List Count) (e : Entry) → IsSettled m h → h.counted ≡ None → k ≡ entered (links_noted h cs) e → OneMore h k (counted_item cs e)
one_counted m h k cs e s none is = subst (λ (y : History). OneMore h y (counted_item cs e)) (sym is)
    (record { logged = logged_with_counts m h cs e s none; beginning = same_beginning m h (entered (links_noted h cs) e) s (settled_with_counts m h cs e s) refl })

-- Lists of items.

pub none_or_more : (l : Logged) (ls : List Logged) → ◌≡◌ {A = List Logged} (l ∷ ls) [] → ⊥
none_or_more l ls e = cc

-- what was seen later begins with what was seen before
pub seen_later : (a b c : List Logged) → StartsWith b a → StartsWith c b → StartsWith c a
seen_later a b c p q = (p.0 ++ q.0, q.1 ∙ ap (λ (ls : List Logged). ls ++ q.0) p.1 ∙ append_assoc a p.0 q.0)

-- each item of the rest
pub orderly_back : (a b : List Logged) → AllOrderly (a ++ b) → AllOrderly b
orderly_back [] b all = all
orderly_back (x ∷ xs) b all = orderly_back xs b (λ j y there. all (suc j) y there)

-- and of one more
pub orderly_one : (a : List Logged) (l : Logged) → AllOrderly a → IsOrderly l → AllOrderly (a ++ l ∷ [])
orderly_one [] l all last zero x at = subst IsOrderly (same l x at) last
  where
    same : (a b : Logged) → some a ≡ some b → a ≡ b
    same a b e = cc
orderly_one [] l all last (suc i) x at = absurd (none_some x at)
  where
    none_some : (y : Logged) → get_elem? {A = Logged} [] i ≡ some y → ⊥
    none_some y e = cc
orderly_one (y ∷ ys) l all last zero x at = all 0 x at
orderly_one (y ∷ ys) l all last (suc i) x at = orderly_one ys l (λ j z there. all (suc j) z there) last i x at

-- what is longer by others' items alone
pub others_none : (p : ℕ) (a b : List Logged) → own_of logged_by p (a ++ b) ≡ own_of logged_by p a → own_of logged_by p b ≡ []
others_none p a b same = no_more (own_of logged_by p a) (own_of logged_by p b) (sym (own_append logged_by p a b) ∙ same)
  where
    tail : List Logged → List Logged
    tail [] = []
    tail (z ∷ zs) = zs

    no_more : (x y : List Logged) → x ++ y ≡ x → y ≡ []
    no_more [] y e = e
    no_more (z ∷ zs) y e = no_more zs y (ap tail e)

-- whose the first item isn't, and of the rest none
not_first : (p : ℕ) (l : Logged) (ls : List Logged) → own_of logged_by p (l ∷ ls) ≡ [] → (¬ (l.entry.party ≡ p)) × (own_of logged_by p ls ≡ [])
not_first p l ls none = from (l.entry.party == p) refl none
  where
    other : (a b : ℕ) → (a == b) ≡ false → ¬ (a ≡ b)
    other a b is = λ same. grind (arith, nat_tests)

    from : (t : Bool) → (l.entry.party == p) ≡ t → entry_kept t l (own_of logged_by p ls) ≡ [] → (¬ (l.entry.party ≡ p)) × (own_of logged_by p ls ≡ [])
    from true is e = absurd (none_or_more l (own_of logged_by p ls) e)
    from false is e = (other l.entry.party p is, e)

-- what others than the dumper enter is no dump, and has no note of the disks
pub others_quiet : (ls : List Logged) → AllOrderly ls → own_of logged_by 9 ls ≡ [] → (list_any (λ (e : Entry). is_dump e.event) (entries_of ls) ≡ false) × (notes_of ls ≡ [])
others_quiet [] all none = (refl, refl)
others_quiet (l ∷ ls) all none =
    let two = not_first 9 l ls none in
    let one = all 0 l refl in
    let rest = others_quiet ls (λ i x at. all (suc i) x at) two.1 in (
      ap (λ (b : Bool). b || list_any (λ (e : Entry). is_dump e.event) (entries_of ls)) (quiet (is_dump l.entry.event) (λ dump. two.0 (one.dumps dump))) ∙ rest.0,
      ap (λ (ns : List Note). ns ++ notes_of ls) (one.notes two.0) ∙ rest.1,
    )
  where
    quiet : (b : Bool) → (b ≡ true → ⊥) → b ≡ false
    quiet true h = absurd (h refl)
    quiet false h = refl

-- all notes of the disks are the dumper's
pub notes_own : (ls : List Logged) → AllOrderly ls → notes_of ls ≡ notes_of (own_of logged_by 9 ls)
notes_own [] all = refl
notes_own (l ∷ ls) all = from (l.entry.party == 9) refl (notes_own ls (λ i x at. all (suc i) x at))
  where
    other : (a b : ℕ) → (a == b) ≡ false → ¬ (a ≡ b)
    other a b is = λ same. grind (arith, nat_tests)

    from : (t : Bool) → (l.entry.party == 9) ≡ t → notes_of ls ≡ notes_of (own_of logged_by 9 ls) → l.notes ++ notes_of ls ≡ notes_of (entry_kept t l (own_of logged_by 9 ls))
    from true is ih = ap (λ (ns : List Note). l.notes ++ ns) ih
    from false is ih = ap (λ (ns : List Note). ns ++ notes_of ls) ((all 0 l refl).notes (other l.entry.party 9 is)) ∙ ih

-- and the note of the links is the porter's
pub counts_own : (ls : List Logged) → AllOrderly ls → NoCounts (own_of logged_by 0 ls) → NoCounts ls
counts_own [] all none = tt
counts_own (l ∷ ls) all none = from (l.entry.party == 0) refl none (counts_own ls (λ i x at. all (suc i) x at))
  where
    other : (a b : ℕ) → (a == b) ≡ false → ¬ (a ≡ b)
    other a b is = λ same. grind (arith, nat_tests)

    from : (t : Bool) → (l.entry.party == 0) ≡ t → NoCounts (entry_kept t l (own_of logged_by 0 ls)) → (NoCounts (own_of logged_by 0 ls) → NoCounts ls) → (l.counted ≡ None) × NoCounts ls
    from true is h ih = (h.0, ih h.1)
    from false is h ih = ((all 0 l refl).counted (other l.entry.party 0 is), ih h)

-- where the porter made no note of the links, there is none
pub not_counted : (m : Note) (h : History) → IsSettled m h → IsPlaced h → AllOrderly (logged h) → NoCounts (own_of logged_by 0 (logged h)) → h.counted ≡ None
not_counted m h s placed all none = sym (ap (λ (x : History). x.counted) (rebuilt m h s placed)) ∙ no_count 0 (logged h) (counts_own (logged h) all none)

-- Turns.

-- the world that a seat was given is settled, and began as the seat knows
pub held_begun : (whose : ℕ) (me : Chair) (v : Sight) (h : History) (r : Rests whose me) → Waited me.0 v → beginning h ∷ [] ≡ v.root → beginning h ≡ begun r.begun.world r.begun.mounting
held_begun whose me v h r waited root = same (root ∙ waited.5 ∙ r.begun.is)
  where
    same : {a b : Beginning} → ◌≡◌ {A = List Beginning} (a ∷ []) (b ∷ []) → a ≡ b
    same e = cc

pub held_settled : (whose : ℕ) (me : Chair) (v : Sight) (h : History) (r : Rests whose me) → Waited me.0 v → beginning h ∷ [] ≡ v.root → IsSettled r.begun.mounting h
held_settled whose me v h r waited root = settled_begun r.begun.world r.begun.mounting h (held_begun whose me v h r waited root)

pub held_start : (whose : ℕ) (me : Chair) (v : Sight) (h : History) (r : Rests whose me) → Waited me.0 v → beginning h ∷ [] ≡ v.root → h.start ≡ r.begun.world
held_start whose me v h r waited root = ap (λ (b : Beginning). b.world) (held_begun whose me v h r waited root)

-- what may be given back
pub given_seen : (v : Sight) (h k : History) (l : Logged) → OneMore h k l → logged h ≡ v.seen → logged k ≡ v.seen ++ l ∷ []
given_seen v h k l one seen = one.logged ∙ ap (λ (ls : List Logged). ls ++ l ∷ []) seen

pub given_root : (v : Sight) (h k : History) (l : Logged) → OneMore h k l → beginning h ∷ [] ≡ v.root → beginning k ∷ [] ≡ v.root
given_root v h k l one root = ap (λ (b : Beginning). b ∷ []) one.beginning ∙ root

-- A turn at a seat: it waited and was given the world, and gave it back longer by this item. It rests again.
pub rests_turned : (whose : ℕ) (me : Chair) (v : Sight) (me' : Chair) (h k : History) (l : Logged)
    → Rests whose me → Waited me.0 v → logged h ≡ v.seen → v.own ≡ own_of logged_by v.party v.seen → AllOrderly v.seen
    → OneMore h k l → l.entry.party ≡ whose → IsOrderly l
    → me'.1 ≡ [] → me'.0.place ≡ Idle → me'.0.seen ≡ logged k
    → (me'.0.party ≡ v.party) × (me'.0.root ≡ v.root) × (me'.0.given ≡ v.given) × (me'.0.joined ≡ v.joined)
    → ((e : Logged) → logged k ≡ v.seen ++ e ∷ [] → e.entry.party ≡ v.party → IsOrderly e → me'.0.own ≡ v.own ++ e ∷ [])
    → Rests whose me' × Turned me.0 me'.0 l
rests_turned whose me v me' h k l r waited seen own all one by orderly free idle seen' same mine =
    let party : v.party ≡ whose = waited.2 ∙ r.party in
    let longer : logged k ≡ v.seen ++ l ∷ [] = given_seen v h k l one seen in
    let own' : me'.0.own ≡ v.own ++ l ∷ [] = mine l longer (by ∙ sym party) orderly in
    let whole : me'.0.seen ≡ v.seen ++ l ∷ [] = seen' ∙ longer in
    let known : v.own ≡ own_of logged_by whose v.seen = own ∙ ap (λ (n : ℕ). own_of logged_by n v.seen) party in (
      record {
        free = free;
        idle = idle;
        party = same.0 ∙ party;
        own = own' ∙ ap (λ (ls : List Logged). ls ++ l ∷ []) known ∙ sym (own_mine logged_by whose v.seen l by) ∙ ap (own_of logged_by whose) (sym whole);
        orderly = subst AllOrderly (sym whole) (orderly_one v.seen l all orderly);
        begun = subst IsBegun (sym (same.1 ∙ waited.5)) r.begun;
      },
      record {
        others = waited.0.0;
        seen = whole ∙ ap (λ (ls : List Logged). ls ++ l ∷ []) waited.0.1;
        own = own' ∙ ap (λ (ls : List Logged). ls ++ l ∷ []) waited.1;
        lists = (same.1 ∙ waited.5, same.2 ∙ waited.3, same.3 ∙ waited.4);
      },
    )

-- who rests may be taken in, and so may who was told that no turn is left
pub left_rests : (whose : ℕ) (me : Chair) → Rests whose me → Left whose me
left_rests whose me r = record { free = r.free; over = inl r.idle; party = r.party; begun = r.begun }

pub left_told : (whose : ℕ) (me me' : Chair) → Rests whose me → Waited me.0 me'.0 → me'.0.place ≡ Told → me'.1 ≡ [] → Left whose me'
left_told whose me me' r waited told free = record { free = free; over = inr told; party = waited.2 ∙ r.party; begun = subst IsBegun (sym waited.5) r.begun }
