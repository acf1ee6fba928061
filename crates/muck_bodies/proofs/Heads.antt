-- The head of a file, by its first 34 bytes.
use Rattle.std.proofs.Common.{◌≡◌, ◌≢◌, ℕ, zero, suc, ◌+◌, ◌-◌, ◌<◌, ◌≤◌, Bool, true, false, leb, eqb, List, [], ◌∷◌, length, take, drop, get_or, Some, None, refl, sym, ◌∙◌, ap, subst, arith, length-take, length-drop}
use Rattle.std.specs.Prelude.{min, find, if◌then◌else◌, ◌&&◌, bytes_eq}
use Rattle.std.proofs.lemmas.List.{drop-drop, take-take}
use Rattle.std.proofs.lemmas.Bool.{le-leb, lt-leb}
use Rattle.std.specs.Int.{w64, from_be_bytes}
use Rattle.std.specs.Option.{option_map_or}
use Rattle.muck_laws.proofs.Parts.{body_front, nine}
use Rattle.muck_laws.proofs.Places.{first_byte}
use Rattle.muck_laws.proofs.Texts.{same_word, size_word}
use Rattle.muck_log.specs.Body.{Body, body_of, magic}
use Rattle.muck_bodies.specs.Bodies.{bodies_up_to, bodies_of, body_numbered, body_number, generation_of}
use Rattle.muck_bodies.proofs.Firsts.{first_short, first_shut, first_cut, first_whole}
use Rattle.muck_bodies.specs.declared.head.Head.{Head}
use Rattle.muck_bodies.specs.inner.Heads.{IsHead, IsWhole}

-- a file of which this is the front
record IsFront (front file : List ℕ) (left : ℕ) : Type 0 where
  size : length file ≡ left
  same : front ≡ take 34 file

none_too : (file : List ℕ) → ((n : ℕ) → bodies_up_to (suc n) file ≡ []) → (n : ℕ) → bodies_up_to n file ≡ []
unfolding bodies_up_to
none_too file none zero = refl
none_too file none (suc n) = none n

pub short_head : (front file : List ℕ) (left : ℕ) → length front ≡ min left 34 → length file ≡ left → front ≡ take 34 file → length front < 9 → IsHead None file
short_head front file left long size same short = none_too file (first_short file (omega (arith, long, size, short)))

pub shut_head : (front file : List ℕ) (left d : ℕ) → length file ≡ left → front ≡ take 34 file → get_or front 0 d ≢ 1 → IsHead None file
shut_head front file left d size same shut = none_too file (first_shut file d (λ e. shut (ap (λ l. get_or l 0 d) same ∙ first_byte file d ∙ e)))

pub cut_head : (front file rest : List ℕ) (left size : ℕ) → length file ≡ left → front ≡ take 34 file → rest ≡ drop 1 front → size ≡ from_be_bytes w64 (take 8 rest) → left - 9 < size → IsHead None file
cut_head front file rest left size long same at is cut =
    let s : size ≡ from_be_bytes w64 (take 8 (drop 1 file)) = is ∙ size_word front file rest same at in
    none_too file (first_cut file (subst (λ n. length (drop 8 (drop 1 file)) < n) s (subst (λ l. length l < size) (sym (nine file)) (omega (arith, cut, long, length-drop 9 file)))))

-- what follows from a body that is there
pub whole_head : (front file rest : List ℕ) (left size d : ℕ) → length file ≡ left → front ≡ take 34 file → rest ≡ drop 1 front → size ≡ from_be_bytes w64 (take 8 rest) → get_or front 0 d ≡ 1 → 9 ≤ length front → size ≤ left - 9
    → (9 + size ≤ length file) × ((n : ℕ) → bodies_up_to (suc n) file ≡ take size (drop 9 file) ∷ bodies_up_to n (drop (9 + size) file))
whole_head front file rest left size d long same at is gate some fits =
    let s : size ≡ from_be_bytes w64 (take 8 (drop 1 file)) = is ∙ size_word front file rest same at in
    let enough : 9 ≤ length file = omega (arith, some, ap length same, length-take 34 file) in
    let open_ : get_or file 0 d ≡ 1 = sym (ap (λ l. get_or l 0 d) same ∙ first_byte file d) ∙ gate in
    let room : from_be_bytes w64 (take 8 (drop 1 file)) ≤ length (drop 8 (drop 1 file)) = subst (λ n. n ≤ length (drop 8 (drop 1 file))) s (subst (λ l. size ≤ length l) (sym (nine file)) (omega (arith, fits, long, length-drop 9 file))) in (
      omega (arith, fits, long, enough),
      λ n. first_whole file d open_ enough room n
          ∙ ap (λ m. take m (drop 8 (drop 1 file)) ∷ bodies_up_to n (drop m (drop 8 (drop 1 file)))) (sym s) ∙ ap (λ l. take size l ∷ bodies_up_to n (drop size l)) (nine file)
          ∙ ap (λ l. take size (drop 9 file) ∷ bodies_up_to n l) (drop-drop size 9 file),
    )

-- The generation and the number of a body stand in its first 25 bytes.

parsed : List ℕ → Body
parsed bytes = record { generation = from_be_bytes w64 (take 8 (drop 5 bytes)); number = from_be_bytes w64 (take 8 (drop 13 bytes)); payload = drop 21 bytes }

by_test : (f : Body → ℕ) (t : Bool) (a b : Body) → f a ≡ f b → option_map_or f (if t then Some a else None) 0 ≡ option_map_or f (if t then Some b else None) 0
by_test f true a b e = e
by_test f false a b e = refl

same_test : (size : ℕ) (l : List ℕ) → 25 ≤ size → size ≤ length l → (leb 25 (length (take 25 l)) && bytes_eq (take 5 (take 25 l)) magic) ≡ (leb 25 (length (take size l)) && bytes_eq (take 5 (take size l)) magic)
same_test size l big fits =
    ap (λ t. t && bytes_eq (take 5 (take 25 l)) magic) (le-leb 25 (length (take 25 l)) (omega (arith, big, fits, length-take 25 l)))
    ∙ ap (λ k. bytes_eq k magic) (take-take 5 25 l (omega arith) ∙ sym (take-take 5 size l (omega (arith, big))))
    ∙ ap (λ t. t && bytes_eq (take 5 (take size l)) magic) (sym (le-leb 25 (length (take size l)) (omega (arith, big, fits, length-take size l))))

same_front : (f : Body → ℕ) (size : ℕ) (l : List ℕ) → 25 ≤ size → size ≤ length l → f (parsed (take 25 l)) ≡ f (parsed (take size l)) → option_map_or f (body_of (take 25 l)) 0 ≡ option_map_or f (body_of (take size l)) 0
unfolding body_of parsed
same_front f size l big fits e =
    ap (λ t. option_map_or f (if t then Some (parsed (take 25 l)) else None) 0) (same_test size l big fits)
    ∙ by_test f (leb 25 (length (take size l)) && bytes_eq (take 5 (take size l)) magic) (parsed (take 25 l)) (parsed (take size l)) e

pub same_generation : (size : ℕ) (l : List ℕ) → 25 ≤ size → size ≤ length l → generation_of (take 25 l) ≡ generation_of (take size l)
unfolding parsed
same_generation size l big fits = same_front (λ (b : Body). b.generation) size l big fits (same_word 5 size l (omega arith) big)

pub same_number : (size : ℕ) (l : List ℕ) → 25 ≤ size → size ≤ length l → body_number (take 25 l) ≡ body_number (take size l)
unfolding parsed
same_number size l big fits = same_front (λ (b : Body). b.number) size l big fits (same_word 13 size l (omega arith) big)

pub small_mark : (f : Body → ℕ) (file : List ℕ) (size : ℕ) → size < 25 → 0 ≡ option_map_or f (body_of (take size (drop 9 file))) 0
unfolding body_of parsed
small_mark f file size small =
    let bytes = take size (drop 9 file) in
    sym (ap (λ t. option_map_or f (if t && bytes_eq (take 5 bytes) magic then Some (parsed bytes) else None) 0) (lt-leb 25 (length bytes) (omega (arith, small, length-take size (drop 9 file)))))

pub small_whole : (h : Head) (file : List ℕ) → h.generation ≡ 0 → h.number ≡ 0 → h.size < 25 → 9 + h.size ≤ length file
    → ((n : ℕ) → bodies_up_to (suc n) file ≡ take h.size (drop 9 file) ∷ bodies_up_to n (drop (9 + h.size) file)) → IsWhole h file
small_whole h file generation number small fits first = record {
  fits = fits;
  number = number ∙ small_mark (λ (b : Body). b.number) file h.size small;
  generation = generation ∙ small_mark (λ (b : Body). b.generation) file h.size small;
  first = first;
}

pub large_whole : (h : Head) (front file body : List ℕ) → front ≡ take 34 file → body ≡ drop 9 front → h.generation ≡ generation_of body → h.number ≡ body_number body → 25 ≤ h.size → 9 + h.size ≤ length file
    → ((n : ℕ) → bodies_up_to (suc n) file ≡ take h.size (drop 9 file) ∷ bodies_up_to n (drop (9 + h.size) file)) → IsWhole h file
large_whole h front file body same at generation number large fits first =
    let here = body_front front file body same at in
    let inside : h.size ≤ length (drop 9 file) = omega (arith, fits, length-drop 9 file) in record {
      fits = fits;
      number = number ∙ ap (λ l. body_number l) here ∙ same_number h.size (drop 9 file) large inside;
      generation = generation ∙ ap (λ l. generation_of l) here ∙ same_generation h.size (drop 9 file) large inside;
      first = first;
    }

same_fuel : (n m : ℕ) (file : List ℕ) → length file ≤ n → length file ≤ m → bodies_up_to n file ≡ bodies_up_to m file
unfolding bodies_up_to
same_fuel zero zero [] a b = refl
same_fuel zero (suc m) [] a b = refl
same_fuel (suc n) zero [] a b = refl
same_fuel (suc n) (suc m) [] a b = refl
same_fuel zero m (x ∷ file) a b = absurd (omega (arith, a))
same_fuel (suc n) zero (x ∷ file) a b = absurd (omega (arith, b))
same_fuel (suc n) (suc m) (g ∷ []) a b = refl
same_fuel (suc n) (suc m) (g ∷ x ∷ rest) a b =
    let size = from_be_bytes w64 (take 8 (x ∷ rest)) in
    ap (λ tail. if eqb g 1 then (if leb (8 + size) (length (x ∷ rest)) then take size (drop 8 (x ∷ rest)) ∷ tail else []) else [])
    (same_fuel n m (drop (8 + size) (x ∷ rest)) (omega (arith, a, length-drop (8 + size) (x ∷ rest))) (omega (arith, b, length-drop (8 + size) (x ∷ rest))))

-- nor is there one in no bytes
pub no_bodies : (file : List ℕ) → length file ≡ 0 → (n : ℕ) → bodies_up_to n file ≡ []
unfolding bodies_up_to
no_bodies [] e zero = refl
no_bodies [] e (suc n) = refl
no_bodies (x ∷ file) e n = absurd (omega (arith, e))

pub found_none : (number : ℕ) (file : List ℕ) → ((n : ℕ) → bodies_up_to n file ≡ []) → body_numbered number (bodies_of file) ≡ None
unfolding body_numbered bodies_of
found_none number file none = ap (find (λ b. eqb (body_number b) number)) (none (length file))

pub found_end : (number at : ℕ) (file : List ℕ) → length file ≤ at → body_numbered number (bodies_of (drop at file)) ≡ None
unfolding bodies_up_to
found_end number at file le = found_none number (drop at file) (nothing (drop at file) (omega (arith, le, length-drop at file)))
  where
    nothing : (l : List ℕ) → length l ≤ 0 → (n : ℕ) → bodies_up_to n l ≡ []
    nothing l le n = same_fuel n 0 l (omega (arith, le)) le

pub found_next : (number size n : ℕ) (file : List ℕ) (b : Bool) → 9 + size ≤ length file → n ≡ body_number (take size (drop 9 file))
    → ((n : ℕ) → bodies_up_to (suc n) file ≡ take size (drop 9 file) ∷ bodies_up_to n (drop (9 + size) file)) → eqb n number ≡ b
    → body_numbered number (bodies_of file) ≡ (if b then Some (take size (drop 9 file)) else body_numbered number (bodies_of (drop (9 + size) file)))
unfolding body_numbered bodies_of
found_next number size n file b fits is first test =
    let rest = drop (9 + size) file in
    let k : length file ≡ suc (length file - 1) = omega (arith, fits) in
    let shape : bodies_up_to (length file) file ≡ take size (drop 9 file) ∷ bodies_up_to (length rest) rest =
    ap (λ m. bodies_up_to m file) k ∙ first (length file - 1) ∙ ap (λ l. take size (drop 9 file) ∷ l) (same_fuel (length file - 1) (length rest) rest (omega (arith, fits, length-drop (9 + size) file)) (omega arith)) in
    ap (find (λ x. eqb (body_number x) number)) shape ∙ ap (λ t. if t then Some (take size (drop 9 file)) else find (λ x. eqb (body_number x) number) (bodies_up_to (length rest) rest)) (ap (λ m. eqb m number) (sym is) ∙ test)
