-- What a file is for the store.
use Rattle.std.proofs.Common.{◌≡◌, ◌≢◌, ◌⊎◌, inl, inr, ⊎_elim, ℕ, ◌+◌, ◌<◌, ◌≤◌, ◌^◌, Bool, true, false, cond, eqb, leb, ◌&&◌, List, [], ◌∷◌, ◌++◌, length, take, drop, get_or, Option, Some, None, Ok, option_map, refl, sym, ◌∙◌, ap, arith, length-append, take-append-drop, length-drop, length-take}
use Rattle.std.proofs.lemmas.List.{take-append-le, drop_more}
use Rattle.std.proofs.lemmas.Bool.{cases_eq, cond-true, cond-false, ne_eqb, eqb-true, le-leb, and_from, cases_Bool}
use Rattle.std.proofs.lemmas.Nat.{from_be_bytes-to_be_bytes_8}
use Rattle.std.specs.Int.{w64, to_be_bytes, from_be_bytes}
use Rattle.muck_laws.proofs.Options.{cond_some, map_some}
use Rattle.muck_laws.proofs.Parts.{part}
use Rattle.muck_laws.proofs.Places.{get_or_front}
use Rattle.muck_log.specs.Body.{Body, body_of, body_bytes, magic}
use Rattle.muck_log.specs.File.{Held, ReadingEnd, Opened, gate_at, begin, byte_step, run, join, reading_end, is_gate_open, header, file_of}
use Rattle.muck_log.specs.Store.{framed, IsKept, IsDone}
use Rattle.muck_log.proofs.Runs.{run-append, run_closed, batch_run, shut_at}
use Rattle.muck_log.proofs.Fronts.{opening, IsEnded, IsShut, ended}

abbrev pub opened : ℕ → ReadingEnd → Option (Option Opened)
opened g e = Some (Some (record { generation = g; ending = Ok e }))

-- of the first 34 bytes
open_is : (c : List ℕ) → 34 ≤ length c → is_gate_open c ≡ eqb (get_or c 0 0) 1
unfolding is_gate_open
open_is [] long = absurd (omega arith)
open_is (a ∷ []) long = absurd (omega arith)
open_is (a ∷ b ∷ c) long = refl

abbrev pub head_by : List ℕ → List ℕ → Option ℕ
head_by size head = cond (leb 25 (from_be_bytes w64 size)) (option_map (λ (b : Body). b.generation) (body_of head)) None

pub header_is : (c : List ℕ) → 34 ≤ length c → header c ≡ head_by (take 8 (drop 1 c)) (take 25 (drop 9 c))
unfolding header
header_is c long = ap (λ (t : Bool). cond (t && leb 25 (from_be_bytes w64 (take 8 (drop 1 c)))) (option_map (λ (b : Body). b.generation) (body_of (take 25 (drop 9 c)))) None) (le-leb 34 (length c) long)

front_open : (p : ℕ) (x c : List ℕ) → 34 ≤ p → p ≤ length x → length x ≤ length c → take p c ≡ take p x → is_gate_open c ≡ is_gate_open x
front_open p x c big le longer e = open_is c (omega arith) ∙ ap (λ k. eqb k 1) (get_or_front p c x 0 e (omega arith)) ∙ sym (open_is x (omega arith))

front_header : (p : ℕ) (x c : List ℕ) → 34 ≤ p → p ≤ length x → length x ≤ length c → take p c ≡ take p x → header c ≡ header x
front_header p x c big le longer e =
    header_is c (omega arith) ∙ ap (λ l. head_by l (take 25 (drop 9 c))) (part p 1 8 x c (omega arith) e) ∙ ap (head_by (take 8 (drop 1 x))) (part p 9 25 x c (omega arith) e) ∙ sym (header_is x (omega arith))

pub file_open : (g : ℕ) (e : ReadingEnd) (c : List ℕ) → is_gate_open c ≡ true → header c ≡ Some g → reading_end (run (opening g) c) ≡ Ok e → file_of c ≡ opened g e
unfolding file_of
file_open g e c is head reads =
    cond-true (is_gate_open c) _ _ is
    ∙ ap (λ o. Some (option_map (λ k. record { generation = k; ending = reading_end (run (gate_at 0 (begin k)) c) }) o)) head
    ∙ ap (λ r. Some (Some (record { generation = g; ending = r }))) reads

pub file_shut : (c : List ℕ) → is_gate_open c ≡ false → file_of c ≡ None
unfolding file_of
file_shut c is = cond-false (is_gate_open c) _ _ is

pub record IsFile (g : ℕ) (e : ReadingEnd) (x : List ℕ) : Type 0 where
  pub is_open : is_gate_open x ≡ true
  pub header : header x ≡ Some g
  pub reads : reading_end (run (opening g) x) ≡ Ok e
  pub ended : IsEnded g x e
  pub big : 34 ≤ e.place
  pub counts : 0 < e.held.count
  pub there : e.place < length x

pub none_shut : (x : List ℕ) → file_of x ≡ None → is_gate_open x ≡ false
unfolding file_of
none_shut x e = elim (cases_Bool (is_gate_open x)) [ inr shut ↦ shut | inl is ↦ absurd (some_none (sym (cond-true (is_gate_open x) _ _ is) ∙ e)) ]
  where
    some_none : {A : Type 0} {a : A} → Some a ≡ None → ⊥
    some_none h = cc

pub two : (x : List ℕ) → is_gate_open x ≡ true → (2 ≤ length x) × (get_or x 0 0 ≡ 1)
unfolding is_gate_open
two [] is = cc
two (a ∷ []) is = cc
two (a ∷ b ∷ x) is = (omega arith, eqb-true a 1 is)

pub file_facts : (g : ℕ) (e : ReadingEnd) (x : List ℕ) → file_of x ≡ opened g e → IsFile g e x
unfolding file_of
file_facts g e x is =
    let open_one = cond_some (is_gate_open x) _ _ is in
    let with_head = map_some _ (header x) _ (some_eq open_one.1) in
    let gen : with_head.0 ≡ g = ap (λ (o : Opened). o.generation) with_head.2 in
    let head : header x ≡ Some g = with_head.1 ∙ ap (λ k. Some k) gen in
    let reads : reading_end (run (opening g) x) ≡ Ok e = ap (λ k. reading_end (run (opening k) x)) (sym gen) ∙ ap (λ (o : Opened). o.ending) with_head.2 in
    let end = ended g x e reads in
    let both = two x open_one.0 in
    let placed : (34 ≤ e.place) × (0 < e.held.count) = ⊎_elim (λ z. absurd (never z.0 both end.shut)) (λ h. h) end.first in
    record { is_open = open_one.0; header = head; reads = reads; ended = end; big = placed.0; counts = placed.1; there = past placed.0 end.shut }
  where
    some_eq : {A : Type 0} {a b : A} → Some a ≡ Some b → a ≡ b
    some_eq h = cc

    never : e.place ≡ 0 → (2 ≤ length x) × (get_or x 0 0 ≡ 1) → IsShut e.place x → ⊥
    never z both (inl (lt, ne)) = ne (ap (λ k. get_or x k 0) z ∙ both.1)
    never z both (inr (inl (len, one))) = omega (arith, z, len, both.0)
    never z both (inr (inr (len, zero_place))) = omega (arith, len, both.0)

    past : 34 ≤ e.place → IsShut e.place x → e.place < length x
    past big (inl (lt, ne)) = lt
    past big (inr (inl (len, one))) = omega (arith, len)
    past big (inr (inr (len, zero_place))) = absurd (omega (arith, zero_place))

single : (place : ℕ) (held : Held) → reading_end (run (gate_at place held) (1 ∷ [])) ≡ Ok (record { place = place; held = held })
unfolding run byte_step gate_at reading_end
single place held = refl

ends_here : (place : ℕ) (held : Held) (b : ℕ) (rest : List ℕ) → (length rest ≡ 0) ⊎ (b ≢ 1) → reading_end (run (gate_at place held) (b ∷ rest)) ≡ Ok (record { place = place; held = held })
unfolding reading_end
ends_here place held b rest (inr ne) = ap reading_end (run_closed place held b rest ne)
ends_here place held b (x ∷ rest) (inl len) = absurd (omega arith)
ends_here place held b [] (inl len) = elim (cases_eq b 1) [
  | inr ne ↦ ap reading_end (run_closed place held b [] ne)
  | inl one ↦ ap (λ k. reading_end (run (gate_at place held) (k ∷ []))) one ∙ single place held
]

-- a file whose front is that of another goes on from its gate
goes_on : (g : ℕ) (e : ReadingEnd) (x c : List ℕ) → IsEnded g x e → take e.place c ≡ take e.place x → run (opening g) c ≡ run (gate_at e.place e.held) (drop e.place c)
goes_on g e x c end front =
    ap (run (opening g)) (sym (take-append-drop e.place c) ∙ ap (λ l. l ++ drop e.place c) front) ∙ run-append (opening g) (take e.place x) (drop e.place c) ∙ ap (λ r. run r (drop e.place c)) end.front

pub kept_open : (g : ℕ) (e : ReadingEnd) (x c : List ℕ) → IsFile g e x → IsKept e.place x c → file_of c ≡ opened g e
kept_open g e x c f k = cases k.shut
  where
    back : drop e.place c ≡ get_or c e.place 0 ∷ drop (e.place + 1) c
    back = drop_more c e.place 0 (omega (arith, f.there, k.no_shorter))

    by : (length (drop (e.place + 1) c) ≡ 0) ⊎ (get_or c e.place 0 ≢ 1) → file_of c ≡ opened g e
    by h = file_open g e c (front_open e.place x c f.big f.ended.within k.no_shorter k.front ∙ f.is_open) (front_header e.place x c f.big f.ended.within k.no_shorter k.front ∙ f.header)
        (ap reading_end (goes_on g e x c f.ended k.front ∙ ap (run (gate_at e.place e.held)) back) ∙ ends_here e.place e.held (get_or c e.place 0) (drop (e.place + 1) c) h)

    cases : (length c ≤ e.place + 1) ⊎ (get_or c e.place 0 ≢ 1) ⊎ (c ≡ x) → file_of c ≡ opened g e
    cases (inl short) = by (inl (omega (arith, length-drop (e.place + 1) c)))
    cases (inr (inl ne)) = by (inr ne)
    cases (inr (inr same)) = ap file_of same ∙ file_open g e x f.is_open f.header f.reads

short_shut : (c : List ℕ) → length c ≤ 1 → is_gate_open c ≡ false
unfolding is_gate_open
short_shut [] le = refl
short_shut (a ∷ []) le = refl
short_shut (a ∷ b ∷ c) le = absurd (omega arith)

other_shut : (c : List ℕ) → get_or c 0 0 ≢ 1 → is_gate_open c ≡ false
unfolding is_gate_open
other_shut [] ne = refl
other_shut (a ∷ []) ne = refl
other_shut (a ∷ b ∷ c) ne = ne_eqb a 1 ne

pub kept_start : (y c : List ℕ) → IsKept 0 y c → (file_of c ≡ None) ⊎ (file_of c ≡ file_of y)
kept_start y c k = cases k.shut
  where
    cases : (length c ≤ 0 + 1) ⊎ (get_or c 0 0 ≢ 1) ⊎ (c ≡ y) → (file_of c ≡ None) ⊎ (file_of c ≡ file_of y)
    cases (inl short) = inl (file_shut c (short_shut c (omega arith)))
    cases (inr (inl ne)) = inl (file_shut c (other_shut c ne))
    cases (inr (inr same)) = inr (ap file_of same)

shut_end : (place : ℕ) (held : Held) → reading_end (shut_at place held) ≡ Ok (record { place = place; held = held })
unfolding reading_end
shut_end place held = refl

pub done_open : (g : ℕ) (e : ReadingEnd) (x c body : List ℕ) (later : Held) → IsFile g e x → IsDone e.place (framed body) x c → length x ≤ length c
    → join e.place e.held body ≡ Some later → 0 < length body → length body < 2 ^ 64
    → file_of c ≡ opened g (record { place = e.place + 9 + length body; held = later })
done_open g e x c body later f d longer joins some fits =
    file_open g (record { place = e.place + 9 + length body; held = later }) c
    (front_open e.place x c f.big f.ended.within longer d.front ∙ f.is_open)
    (front_header e.place x c f.big f.ended.within longer d.front ∙ f.header)
    (ap reading_end (goes_on g e x c f.ended d.front ∙ ap (run (gate_at e.place e.held)) d.back.1 ∙ batch_run e.place e.held later body d.back.0 joins some fits)
    ∙ shut_end (e.place + 9 + length body) later)

pub done_start : (g : ℕ) (y c body : List ℕ) (later : Held) → IsDone 0 (framed body) y c
    → join 0 (begin g) body ≡ Some later → option_map (λ (b : Body). b.generation) (body_of (take 25 body)) ≡ Some g → 25 ≤ length body → length body < 2 ^ 64
    → file_of c ≡ opened g (record { place = 0 + 9 + length body; held = later })
unfolding framed
done_start g y c body later d joins head long fits =
    let rest = d.back.0 in
    let is : c ≡ 1 ∷ (to_be_bytes w64 (length body) ++ body ++ 0 ∷ []) ++ rest = d.back.1 in
    let len : length c ≡ 9 + (length body + 1 + length rest) = ap length is ∙ omega (arith, length-append ((to_be_bytes w64 (length body) ++ body) ++ 0 ∷ []) rest, length-append (to_be_bytes w64 (length body) ++ body) (0 ∷ []), length-append (to_be_bytes w64 (length body)) body, eight) in
    let size : take 8 (drop 1 c) ≡ to_be_bytes w64 (length body) = ap (λ l. take 8 (drop 1 l)) is in
    let front : take 25 (drop 9 c) ≡ take 25 body = ap (λ l. take 25 (drop 9 l)) is ∙ take-append-le 25 (body ++ 0 ∷ []) rest (omega (arith, length-append body (0 ∷ []))) ∙ take-append-le 25 body (0 ∷ []) long in
    let number : from_be_bytes w64 (take 8 (drop 1 c)) ≡ length body = ap (from_be_bytes w64) size ∙ from_be_bytes-to_be_bytes_8 (length body) fits in
    file_open g (record { place = 0 + 9 + length body; held = later }) c
    (open_is c (omega (arith, len)) ∙ ap (λ l. eqb (get_or l 0 0) 1) is)
    (header_is c (omega (arith, len)) ∙ cond-true (leb 25 (from_be_bytes w64 (take 8 (drop 1 c)))) _ _ (le-leb 25 _ (omega (arith, number))) ∙ ap (λ l. option_map (λ (b : Body). b.generation) (body_of l)) front ∙ head)
    (ap (λ l. reading_end (run (opening g) l)) is ∙ ap reading_end (batch_run 0 (begin g) later body rest joins (omega arith) fits) ∙ shut_end (0 + 9 + length body) later)
  where
    eight : length (to_be_bytes w64 (length body)) ≡ 8
    eight = refl

pub body_length : (g n : ℕ) (payload : List ℕ) → length (body_bytes g n payload) ≡ 21 + length payload
unfolding body_bytes magic
body_length g n payload = omega arith

-- what was written is read again
pub body_reads : (g n : ℕ) (payload : List ℕ) → g < 2 ^ 64 → n < 2 ^ 64 → 4 ≤ length payload → body_of (body_bytes g n payload) ≡ Some (record { generation = g; number = n; payload = payload })
unfolding body_of body_bytes magic
body_reads g n payload gf nf long =
    cond-true _ _ _ (and_from _ true (le-leb 25 (length (body_bytes g n payload)) (omega (arith, body_length g n payload))) refl)
    ∙ ap (λ (k : ℕ). Some (record { generation = k; number = from_be_bytes w64 (to_be_bytes w64 n); payload = payload })) (from_be_bytes-to_be_bytes_8 g gf)
    ∙ ap (λ (k : ℕ). Some (record { generation = g; number = k; payload = payload })) (from_be_bytes-to_be_bytes_8 n nf)

pub head_reads : (g n : ℕ) (payload : List ℕ) → g < 2 ^ 64 → 4 ≤ length payload → option_map (λ (b : Body). b.generation) (body_of (take 25 (body_bytes g n payload))) ≡ Some g
unfolding body_of body_bytes magic
head_reads g n payload gf long =
    ap (option_map (λ (b : Body). b.generation)) (cond-true _ _ _ (and_from _ true (le-leb 25 (length (take 25 (body_bytes g n payload))) (omega (arith, length-take 25 (body_bytes g n payload), body_length g n payload))) refl))
    ∙ ap (λ (k : ℕ). Some k) (from_be_bytes-to_be_bytes_8 g gf)
