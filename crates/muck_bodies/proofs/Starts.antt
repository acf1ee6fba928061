-- Where the batches of a store begin.
use Rattle.std.proofs.Common.{◌≡◌, ℕ, zero, suc, ◌+◌, ◌-◌, ◌≤◌, Bool, true, false, eqb, leb, ltb, List, [], ◌∷◌, length, take, drop, Option, Some, None, Result, Ok, Err, refl, sym, ◌∙◌, ap, subst, arith, length-drop}
use Rattle.std.specs.Prelude.{if◌then◌else◌, option_map, ◌&&◌}
use Rattle.std.specs.Option.{option_map_or}
use Rattle.std.specs.Int.{w64, from_be_bytes}
use Rattle.std.proofs.lemmas.Bool.{cond-true, cond-false, and_parts, eqb-true, leb-true}
use Rattle.muck_laws.proofs.Lists.{firsts_same, no_first}
use Rattle.muck_laws.proofs.Options.{and_then_some, cond_some, map_some}
use Rattle.muck_log.specs.Body.{Body, body_of}
use Rattle.muck_log.specs.World.{laid}
use Rattle.muck_log.specs.File.{Held, ReadingEnd, Opened, join, follows, begin, file_of, header, is_gate_open}
use Rattle.muck_log.specs.Store.{Chosen, Damage, store_of, file_picked, file_loaded, newer, pick}
use Rattle.muck_log.proofs.Files.{opened, file_facts, none_shut}
use Rattle.muck_bodies.specs.declared.head.Head.{Head}
use Rattle.muck_bodies.specs.declared.beginning.Start.{Start}
use Rattle.muck_bodies.specs.Bodies.{bodies_up_to, bodies_of, generation_of, first_number, IsStart, Lead}
use Rattle.muck_bodies.specs.inner.Heads.{IsHead, IsWhole, start_at, chosen_start}
use Rattle.muck_bodies.proofs.Heads.{same_generation}
use Rattle.muck_bodies.proofs.Leading.{leads}

-- a file whose first gate isn't open has no body
pub shut_bodies : (file : List ℕ) → is_gate_open file ≡ false → (n : ℕ) → bodies_up_to n file ≡ []
unfolding bodies_up_to is_gate_open
shut_bodies file shut zero = refl
shut_bodies [] shut (suc n) = refl
shut_bodies (g ∷ []) shut (suc n) = refl
shut_bodies (g ∷ x ∷ rest) shut (suc n) = cond-false (eqb g 1) _ _ shut

pub shut_head_none : (h : Option Head) (file : List ℕ) → is_gate_open file ≡ false → IsHead h file → h ≡ None
shut_head_none None file shut is = refl
shut_head_none (Some h) file shut is = absurd (no_first _ _ (sym (shut_bodies file shut 1) ∙ is.first 0))

-- what joins is of the same generation
record Joined (held next : Held) (bytes : List ℕ) : Type 0 where
  one : generation_of bytes ≡ held.generation
  stays : next.generation ≡ held.generation

joined : (place : ℕ) (held next : Held) (bytes : List ℕ) → join place held bytes ≡ Some next → Joined held next bytes
unfolding join follows
joined place held next bytes is =
    let with_body = and_then_some _ (body_of bytes) next is in
    let may = cond_some (follows held with_body.0.generation with_body.0.number) _ next with_body.2 in
    let with_world = map_some _ (laid with_body.0.payload held.world) next may.1 in
    let parts = and_parts (eqb with_body.0.generation held.generation) _ may.0 in record {
      one = ap (λ (o : Option Body). option_map_or (λ (b : Body). b.generation) o 0) with_body.1 ∙ eqb-true _ _ parts.0;
      stays = sym (ap (λ (h : Held). h.generation) with_world.2);
    }

pub lead_generation : (held to : Held) (bs : List (List ℕ)) → Lead held bs to → to.generation ≡ held.generation
lead_generation held to [] lead = ap (λ (h : Held). h.generation) lead
lead_generation held to (b ∷ bs) lead = lead_generation lead.1 to bs lead.3 ∙ (joined lead.0 held lead.1 b lead.2).stays

-- the head of a file that isn't outside the format
pub record Opens (g : ℕ) (h : Option Head) (file : List ℕ) : Type 0 where
  pub head : Head
  pub is : h ≡ Some head
  pub generation : head.generation ≡ g
  pub first : head.number ≡ first_number (bodies_of file)

pub opens : (g : ℕ) (e : ReadingEnd) (h : Option Head) (file : List ℕ) → file_of file ≡ opened g e → IsHead h file → Opens g h file
unfolding bodies_of begin
opens g e None file is head =
    let f = file_facts g e file is in
    let lead : Lead (begin g) [] e.held = subst (λ bs. Lead (begin g) bs e.held) (head (length file)) (leads file g e is) in
    absurd (omega (arith, f.counts, ap (λ (k : Held). k.count) lead))
opens g e (Some x) file is w =
    let k : length file ≡ suc (length file - 1) = omega (arith, w.fits) in
    let shape : bodies_of file ≡ take x.size (drop 9 file) ∷ bodies_up_to (length file - 1) (drop (9 + x.size) file) = ap (λ m. bodies_up_to m file) k ∙ w.first (length file - 1) in
    let lead : Lead (begin g) (take x.size (drop 9 file) ∷ bodies_up_to (length file - 1) (drop (9 + x.size) file)) e.held = subst (λ bs. Lead (begin g) bs e.held) shape (leads file g e is) in
    record {
      head = x;
      is = refl;
      generation = w.generation ∙ (joined lead.0 (begin g) lead.1 (take x.size (drop 9 file)) lead.2).one;
      first = w.number ∙ sym (ap (λ bs. first_number bs) shape);
    }

-- the head of a file that is open, whatever stands behind
open_parts : (o : Opened) (file : List ℕ) → file_of file ≡ Some (Some o) → (is_gate_open file ≡ true) × (header file ≡ Some o.generation)
unfolding file_of
open_parts o file is =
    let open_one = cond_some (is_gate_open file) _ _ is in
    let with_head = map_some _ (header file) _ (inner open_one.1) in
    (open_one.0, with_head.1 ∙ ap Some (ap (λ (p : Opened). p.generation) with_head.2))
  where
    inner : {A : Type 0} {a b : A} → Some a ≡ Some b → a ≡ b
    inner h = cc

-- its first body, where it has one
body_there : (file : List ℕ) (x : List ℕ) (xs : List (List ℕ)) → bodies_up_to 1 file ≡ x ∷ xs → (from_be_bytes w64 (take 8 (drop 1 file)) ≤ length (drop 9 file)) × (x ≡ take (from_be_bytes w64 (take 8 (drop 1 file))) (drop 9 file))
unfolding bodies_up_to
body_there [] x xs e = absurd (no_first x xs e)
body_there (g ∷ []) x xs e = absurd (no_first x xs e)
body_there (g ∷ y ∷ rest) x xs e = by_gate (eqb g 1) e
  where
    size : ℕ
    size = from_be_bytes w64 (take 8 (y ∷ rest))

    by_size : (b : Bool) → leb (8 + size) (length (y ∷ rest)) ≡ b → (if b then take size (drop 8 (y ∷ rest)) ∷ [] else []) ≡ x ∷ xs → (size ≤ length (drop 8 (y ∷ rest))) × (x ≡ take size (drop 8 (y ∷ rest)))
    by_size true le e = (omega (arith, leb-true (8 + size) (length (y ∷ rest)) le, length-drop 8 (y ∷ rest)), sym (firsts_same _ x [] xs e))
    by_size false le e = absurd (no_first x xs e)

    by_gate : (b : Bool) → (if b then (if leb (8 + size) (length (y ∷ rest)) then take size (drop 8 (y ∷ rest)) ∷ [] else []) else []) ≡ x ∷ xs → (size ≤ length (drop 8 (y ∷ rest))) × (x ≡ take size (drop 8 (y ∷ rest)))
    by_gate true e = by_size (leb (8 + size) (length (y ∷ rest))) refl e
    by_gate false e = absurd (no_first x xs e)

generation_is : (bytes : List ℕ) (g : ℕ) → option_map (λ (b : Body). b.generation) (body_of bytes) ≡ Some g → generation_of bytes ≡ g
generation_is bytes g is =
    let with_body = map_some (λ (b : Body). b.generation) (body_of bytes) g is in
    ap (λ (o : Option Body). option_map_or (λ (b : Body). b.generation) o 0) with_body.1 ∙ with_body.2

pub head_generation : (x : Head) (file : List ℕ) (g : ℕ) → header file ≡ Some g → IsWhole x file → x.generation ≡ g
unfolding header
head_generation x file g is w =
    let size = from_be_bytes w64 (take 8 (drop 1 file)) in
    let may = cond_some (leb 34 (length file) && leb 25 size) (option_map (λ (b : Body). b.generation) (body_of (take 25 (drop 9 file)))) g is in
    let parts = and_parts (leb 34 (length file)) (leb 25 size) may.0 in
    let there = body_there file (take x.size (drop 9 file)) (bodies_up_to 0 (drop (9 + x.size) file)) (w.first 0) in
    w.generation ∙ ap (λ l. generation_of l) there.1 ∙ sym (same_generation size (drop 9 file) (leb-true 25 size parts.1) there.0) ∙ generation_is (take 25 (drop 9 file)) g may.1

-- the file that counts
record Counts (second : Bool) (h : Option Head) (s : Chosen) (file : List ℕ) : Type 0 where
  head : Head
  is : h ≡ Some head
  second_is : s.second ≡ second
  starts : IsStart (start_at second head) s file

pub not_ok : (d : Damage) (s : Chosen) → ◌≡◌ {A = Result Chosen Damage} (Err d) (Ok s) → ⊥
not_ok d s h = cc

pub ok_same : (a b : Chosen) → ◌≡◌ {A = Result Chosen Damage} (Ok a) (Ok b) → a ≡ b
ok_same a b h = cc

counts_so : (second : Bool) (g : ℕ) (ending : Result ReadingEnd ℕ) (h : Option Head) (s : Chosen) (file : List ℕ) → file_of file ≡ Some (Some (record { generation = g; ending = ending })) → IsHead h file → file_loaded second ending ≡ Ok s → Counts second h s file
unfolding begin
counts_so second g (Err at) h s file is head loads = absurd (not_ok _ s loads)
counts_so second g (Ok e) h s file is head loads =
    let same = ok_same (record { second = second; place = e.place; held = e.held }) s loads in
    let o = opens g e h file is head in
    let gen : e.held.generation ≡ g = lead_generation (begin g) e.held (bodies_of file) (leads file g e is) in record {
      head = o.head;
      is = o.is;
      second_is = sym (ap (λ (k : Chosen). k.second) same);
      starts = record {
        second = ap (λ (k : Chosen). k.second) same;
        generation = o.generation ∙ sym gen ∙ ap (λ (k : Chosen). k.held.generation) same;
        first = o.first;
      };
    }

counts : (second : Bool) (o : Opened) (h : Option Head) (s : Chosen) (file : List ℕ) → file_of file ≡ Some (Some o) → IsHead h file → file_loaded second o.ending ≡ Ok s → Counts second h s file
counts second o h s file is head loads = counts_so second o.generation o.ending h s file is head loads

abbrev Begun : Option Head → Option Head → Chosen → List ℕ → List ℕ → Type 0
Begun ha hb s a b = IsStart (chosen_start ha hb) s (pick s.second a b)

first_counts : (ha hb : Option Head) (s : Chosen) (a b : List ℕ) → (x : Counts false ha s a) → chosen_start (Some x.head) hb ≡ start_at false x.head → Begun ha hb s a b
first_counts ha hb s a b x e =
    subst (λ k. IsStart (chosen_start k hb) s (pick s.second a b)) (sym x.is) (subst (λ k. IsStart (chosen_start (Some x.head) hb) s (pick k a b)) (sym x.second_is) (subst (λ (k : Start). IsStart k s a) (sym e) x.starts))

second_counts : (ha hb : Option Head) (s : Chosen) (a b : List ℕ) → (x : Counts true hb s b) → chosen_start ha (Some x.head) ≡ start_at true x.head → Begun ha hb s a b
second_counts ha hb s a b x e =
    subst (λ k. IsStart (chosen_start ha k) s (pick s.second a b)) (sym x.is) (subst (λ k. IsStart (chosen_start ha (Some x.head)) s (pick k a b)) (sym x.second_is) (subst (λ (k : Start). IsStart k s b) (sym e) x.starts))

neither : (s : Chosen) (a b : List ℕ) → is_gate_open a ≡ false → is_gate_open b ≡ false → record { second = false; place = 0; held = begin 1 } ≡ s → Begun None None s a b
unfolding bodies_of begin
neither s a b shut_a shut_b same = subst (λ (k : Chosen). IsStart (record { second = false; generation = 1; first = 1 }) k (pick k.second a b)) same (record {
  second = refl;
  generation = refl;
  first = sym (ap (λ bs. first_number bs) (shut_bodies a shut_a (length a)));
})

-- both files are open: the head of the other one has its generation, where it has one
older_head : (o : Opened) (h : Option Head) (file : List ℕ) → file_of file ≡ Some (Some o) → IsHead h file → (x : Head) → h ≡ Some x → x.generation ≡ o.generation
older_head o h file is head x same = head_generation x file o.generation (open_parts o file is).1 (subst (λ k. IsHead k file) same head)

first_wins : (hb : Option Head) (x : Head) (f g : ℕ) → ((y : Head) → hb ≡ Some y → y.generation ≡ g) → x.generation ≡ f → ltb g f ≡ true → chosen_start (Some x) hb ≡ start_at false x
first_wins None x f g of same less = refl
first_wins (Some y) x f g of same less = cond-true (ltb y.generation x.generation) _ _ (ap (λ k. ltb k x.generation) (of y refl) ∙ ap (ltb g) same ∙ less)

second_wins : (ha : Option Head) (y : Head) (f g : ℕ) → ((x : Head) → ha ≡ Some x → x.generation ≡ f) → y.generation ≡ g → ltb g f ≡ false → chosen_start ha (Some y) ≡ start_at true y
second_wins None y f g of same less = refl
second_wins (Some x) y f g of same less = cond-false (ltb y.generation x.generation) _ _ (ap (λ k. ltb k x.generation) same ∙ ap (ltb g) (of x refl) ∙ less)

both_open : (oa ob : Opened) (ha hb : Option Head) (s : Chosen) (a b : List ℕ) → file_of a ≡ Some (Some oa) → file_of b ≡ Some (Some ob) → IsHead ha a → IsHead hb b → newer oa ob ≡ Ok s → Begun ha hb s a b
both_open oa ob ha hb s a b is_a is_b head_a head_b = by_same (eqb oa.generation ob.generation)
  where
    by_less : (t : Bool) → ltb ob.generation oa.generation ≡ t → (if t then file_loaded false oa.ending else file_loaded true ob.ending) ≡ Ok s → Begun ha hb s a b
    by_less true less loads =
        let x = counts false oa ha s a is_a head_a loads in
        first_counts ha hb s a b x (first_wins hb x.head oa.generation ob.generation (older_head ob hb b is_b head_b) (older_head oa ha a is_a head_a x.head x.is) less)
    by_less false less loads =
        let y = counts true ob hb s b is_b head_b loads in
        second_counts ha hb s a b y (second_wins ha y.head oa.generation ob.generation (older_head oa ha a is_a head_a) (older_head ob hb b is_b head_b y.head y.is) less)

    by_same : (t : Bool) → (if t then Err (record { second = true; at = 0 }) else (if ltb ob.generation oa.generation then file_loaded false oa.ending else file_loaded true ob.ending)) ≡ Ok s → Begun ha hb s a b
    by_same true loads = absurd (not_ok _ s loads)
    by_same false loads = by_less (ltb ob.generation oa.generation) refl loads

starts_by : (fa fb : Option (Option Opened)) (ha hb : Option Head) (s : Chosen) (a b : List ℕ) → file_of a ≡ fa → file_of b ≡ fb → IsHead ha a → IsHead hb b → file_picked fa fb ≡ Ok s → Begun ha hb s a b
unfolding file_picked
starts_by (Some None) fb ha hb s a b is_a is_b head_a head_b loads = absurd (not_ok _ s loads)
starts_by None (Some None) ha hb s a b is_a is_b head_a head_b loads = absurd (not_ok _ s loads)
starts_by (Some (Some oa)) (Some None) ha hb s a b is_a is_b head_a head_b loads = absurd (not_ok _ s loads)
starts_by None None ha hb s a b is_a is_b head_a head_b loads =
    let shut_a = none_shut a is_a in
    let shut_b = none_shut b is_b in
    subst (λ k. Begun k hb s a b) (sym (shut_head_none ha a shut_a head_a)) (subst (λ k. Begun None k s a b) (sym (shut_head_none hb b shut_b head_b)) (neither s a b shut_a shut_b (ok_same _ s loads)))
starts_by (Some (Some oa)) None ha hb s a b is_a is_b head_a head_b loads =
    let x = counts false oa ha s a is_a head_a loads in
    first_counts ha hb s a b x (ap (chosen_start (Some x.head)) (shut_head_none hb b (none_shut b is_b) head_b))
starts_by None (Some (Some ob)) ha hb s a b is_a is_b head_a head_b loads =
    let y = counts true ob hb s b is_b head_b loads in
    second_counts ha hb s a b y (ap (λ k. chosen_start k (Some y.head)) (shut_head_none ha a (none_shut a is_a) head_a))
starts_by (Some (Some oa)) (Some (Some ob)) ha hb s a b is_a is_b head_a head_b loads = both_open oa ob ha hb s a b is_a is_b head_a head_b loads

-- by the first heads of both files
pub starts_as : (ha hb : Option Head) (a b : List ℕ) (s : Chosen) (start : Start) → IsHead ha a → IsHead hb b → store_of a b ≡ Ok s → start ≡ chosen_start ha hb → IsStart start s (pick s.second a b)
unfolding store_of
starts_as ha hb a b s start head_a head_b loads is = subst (λ (k : Start). IsStart k s (pick s.second a b)) (sym is) (starts_by (file_of a) (file_of b) ha hb s a b refl refl head_a head_b loads)
