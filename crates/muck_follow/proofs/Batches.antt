-- The bodies of a store are the batches that a mirror takes.
use Rattle.std.proofs.Common.{◌≡◌, inl, inr, ℕ, zero, suc, ◌+◌, ◌-◌, ◌<◌, ◌≤◌, ◌^◌, Bool, true, false, eqb, leb, ltb, List, [], ◌∷◌, ◌++◌, length, take, drop, Option, Some, None, Result, Ok, Err, refl, sym, ◌∙◌, ap, subst, arith, length-take, length-drop, take-append-drop, append_assoc}
use Rattle.std.specs.Prelude.{if◌then◌else◌, codes, bytes_eq, ◌&&◌, ◌||◌, option_and_then}
use Rattle.std.specs.Option.{option_map_or}
use Rattle.std.specs.Int.{w64, to_be_bytes, from_be_bytes}
use Rattle.std.proofs.lemmas.List.{get_or-drop, get_or-take, drop-drop}
use Rattle.std.proofs.lemmas.Bool.{cond-true, cond-false, eq-eqb, and_parts, eqb-true, leb-true, le-ltb, ne_eqb, cases_lt}
use Rattle.std.proofs.lemmas.Nat.{be_bytes_8}
use Rattle.std.proofs.lemmas.Slice.Eq.{bytes_eq-Decides}
use Rattle.std.proofs.lemmas.Option.{same_Some, none-some}
use Rattle.muck_laws.proofs.Options.{and_then_some, cond_some, map_some}
use Rattle.muck_laws.proofs.Places.{past}
use Rattle.muck_laws.proofs.Truths.{either_true}
use Rattle.muck_codec.specs.declared.stored.Batch.{Batch}
use Rattle.muck_codec.specs.Batches.{whole_batch}
use Rattle.muck_codec.specs.Reading.{number_at, ◌>>=◌}
use Rattle.muck_log.specs.Body.{Body, body_of, magic}
use Rattle.muck_log.specs.World.{StoredWorld, start, laid, laid_over, batch_if}
use Rattle.muck_log.specs.File.{Held, join, follows, after_number, begin}
use Rattle.muck_mirror.specs.Bodies.{literal_at, version_at, body_head_at, FedBody as Read, fault_placed, fed_body_in}
use Rattle.muck_mirror.specs.Laying.{laid_in}
use Rattle.muck_mirror.specs.Fronts.{AreBatches, laid_body, or_else_world, front_world}
use Rattle.muck_bodies.specs.Bodies.{bodies_up_to, body_number, first_number, Lead}
use Rattle.muck_follow.specs.Fronts.{AreBytes}

-- Parts of bytes are bytes.

pub drop_bytes : (n : ℕ) (l : List ℕ) → AreBytes l → AreBytes (drop n l)
drop_bytes n l are i = subst (λ k. k < 256) (sym (get_or-drop n l i 0)) (are (n + i))

pub take_bytes : (n : ℕ) (l : List ℕ) → AreBytes l → AreBytes (take n l)
take_bytes n l are i = elim (cases_lt i n) [
  | inl less ↦ subst (λ k. k < 256) (sym (get_or-take n l i 0 less)) (are i)
  | inr more ↦ subst (λ k. k < 256) (sym (past (take n l) i 0 (omega (arith, more, length-take n l)))) (omega arith)
]

-- all of these are bytes
abbrev pub AllBytes : List (List ℕ) → Type 0
AllBytes [] = Unit {0}
AllBytes (x ∷ xs) = AreBytes x × AllBytes xs

-- What a body says.

literal_is : (wanted rest : List ℕ) → literal_at wanted (wanted ++ rest) ≡ Ok rest
unfolding literal_at
literal_is [] rest = refl
literal_is (w ∷ wanted) rest = cond-true (eqb w w) _ _ (eq-eqb w w refl) ∙ literal_is wanted rest

-- a body that parses, of this generation
pub record Parses (g : ℕ) (bytes : List ℕ) (b : Body) : Type 0 where
  pub long : 25 ≤ length bytes
  pub front : take 5 bytes ≡ codes "MUCK" ++ 1 ∷ []
  pub generation : from_be_bytes w64 (take 8 (drop 5 bytes)) ≡ g
  pub number : b.number ≡ from_be_bytes w64 (take 8 (drop 13 bytes))
  pub payload : b.payload ≡ drop 21 bytes

pub parses : (g : ℕ) (bytes : List ℕ) (b : Body) → body_of bytes ≡ Some b → b.generation ≡ g → Parses g bytes b
unfolding body_of magic
parses g bytes b is one =
    let may = cond_some (leb 25 (length bytes) && bytes_eq (take 5 bytes) magic) _ b is in
    let both = and_parts (leb 25 (length bytes)) (bytes_eq (take 5 bytes) magic) may.0 in
    let same = same_Some _ b may.1 in record {
      long = leb-true 25 (length bytes) both.0;
      front = decided (take 5 bytes) magic both.1;
      generation = ap (λ (x : Body). x.generation) same ∙ one;
      number = sym (ap (λ (x : Body). x.number) same);
      payload = sym (ap (λ (x : Body). x.payload) same);
    }
  where
    decided : (xs ys : List ℕ) → bytes_eq xs ys ≡ true → xs ≡ ys
    decided xs ys e = (bytes_eq-Decides xs ys).0 e

head_is : (g : ℕ) (bytes : List ℕ) (b : Body) → AreBytes bytes → Parses g bytes b → body_head_at g bytes ≡ Ok (record { version = 1; number = b.number }, b.payload)
unfolding body_head_at version_at
head_is g bytes b are p =
    let word : to_be_bytes w64 g ≡ take 8 (drop 5 bytes) =
    be_bytes_8 (take 8 (drop 5 bytes)) g (omega (arith, length-take 8 (drop 5 bytes), length-drop 5 bytes, p.long)) (take_bytes 8 (drop 5 bytes) (drop_bytes 5 bytes are)) (sym p.generation) in
    let split : bytes ≡ codes "MUCK" ++ (1 ∷ drop 5 bytes) = sym (take-append-drop 5 bytes) ∙ ap (λ l. l ++ drop 5 bytes) p.front ∙ append_assoc (codes "MUCK") (1 ∷ []) (drop 5 bytes) in
    let first : literal_at (codes "MUCK") bytes ≡ Ok (1 ∷ drop 5 bytes) = ap (literal_at (codes "MUCK")) split ∙ literal_is (codes "MUCK") (1 ∷ drop 5 bytes) in
    let second : literal_at (to_be_bytes w64 g) (drop 5 bytes) ≡ Ok (drop 8 (drop 5 bytes)) =
    ap (λ w. literal_at w (drop 5 bytes)) word ∙ ap (literal_at (take 8 (drop 5 bytes))) (sym (take-append-drop 8 (drop 5 bytes))) ∙ literal_is (take 8 (drop 5 bytes)) (drop 8 (drop 5 bytes)) in
    let there : drop 8 (drop 5 bytes) ≡ drop 13 bytes = drop-drop 8 5 bytes in
    let third : number_at w64 (drop 13 bytes) ≡ Ok (b.number, b.payload) =
    cond-false (ltb (length (drop 13 bytes)) 8) _ _ (le-ltb (length (drop 13 bytes)) 8 (omega (arith, length-drop 13 bytes, p.long)))
    ∙ ap (λ n. Ok (n, drop 8 (drop 13 bytes))) (sym p.number) ∙ ap (λ l. Ok (b.number, l)) (drop-drop 8 13 bytes ∙ sym p.payload) in
    ap (λ r. r >>= λ rest. version_at rest >>= λ v. literal_at (to_be_bytes w64 g) v.1 >>= λ tail. number_at w64 tail >>= λ n. Ok (record { version = v.0; number = n.0 }, n.1)) first
    ∙ ap (λ r. r >>= λ tail. number_at w64 tail >>= λ n. Ok (record { version = 1; number = n.0 }, n.1)) second
    ∙ ap (λ l. number_at w64 l >>= λ n. Ok (record { version = 1; number = n.0 }, n.1)) there
    ∙ ap (λ r. r >>= λ n. Ok (record { version = 1; number = n.0 }, n.1)) third

read_of : Body → Read
read_of b = record { version = 1; number = b.number; payload = b.payload }

body_is : (g : ℕ) (bytes : List ℕ) (b : Body) (batch : Batch) → AreBytes bytes → Parses g bytes b → whole_batch 1 b.payload ≡ Ok batch → fed_body_in g bytes ≡ Ok (read_of b)
unfolding fed_body_in read_of
body_is g bytes b batch are p whole =
    ap (λ r. fault_placed 0 bytes r >>= λ h. fault_placed (length bytes - length h.1) h.1 (whole_batch h.0.version h.1) >>= λ k. Ok (record { version = h.0.version; number = h.0.number; payload = h.1 })) (head_is g bytes b are p)
    ∙ ap (λ r. fault_placed (length bytes - length b.payload) b.payload r >>= λ k. Ok (record { version = 1; number = b.number; payload = b.payload })) whole

-- What joins is a batch.

pub record Joined (g : ℕ) (held next : Held) (bytes : List ℕ) : Type 0 where
  pub body : Read
  pub reads : fed_body_in g bytes ≡ Ok body
  pub number : body.number ≡ body_number bytes
  pub follows : 0 < held.count → body.number ≡ after_number held.number
  pub lays : laid_in body.version body.payload held.world ≡ Some next.world
  pub generation : next.generation ≡ g
  pub numbered : next.number ≡ body.number
  pub count : 0 < next.count

whole_of : (payload : List ℕ) (w v : StoredWorld) → laid payload w ≡ Some v → (batch : Batch) × (whole_batch 1 payload ≡ Ok batch)
unfolding laid
whole_of payload w v is = by (whole_batch 1 payload) refl is
  where
    by : (r : Result Batch ℕ) → whole_batch 1 payload ≡ r → option_and_then (λ b. laid_over b w) (batch_if r) ≡ Some v → (batch : Batch) × (whole_batch 1 payload ≡ Ok batch)
    by (Ok batch) reads is = (batch, reads)
    by (Err left) reads is = absurd (none-some v is)

pub joined : (place : ℕ) (held next : Held) (bytes : List ℕ) → AreBytes bytes → join place held bytes ≡ Some next → Joined held.generation held next bytes
unfolding join follows laid laid_in read_of
joined place held next bytes are is =
    let with_body = and_then_some _ (body_of bytes) next is in
    let b = with_body.0 in
    let may = cond_some (follows held b.generation b.number) _ next with_body.2 in
    let with_world = map_some _ (laid b.payload held.world) next may.1 in
    let parts = and_parts (eqb b.generation held.generation) (eqb held.count 0 || eqb b.number (after_number held.number)) may.0 in
    let p = parses held.generation bytes b with_body.1 (eqb-true _ _ parts.0) in
    let whole = whole_of b.payload held.world with_world.0 with_world.1 in record {
      body = read_of b;
      reads = body_is held.generation bytes b whole.0 are p whole.1;
      number = sym (ap (λ (o : Option Body). option_map_or (λ (k : Body). k.number) o 0) with_body.1);
      follows = λ some. eqb-true _ _ (either_true (eqb held.count 0) (eqb b.number (after_number held.number)) parts.1 (ne_eqb held.count 0 (λ e. omega (arith, some, e))));
      lays = with_world.1 ∙ ap (λ (h : Held). Some h.world) with_world.2;
      generation = sym (ap (λ (h : Held). h.generation) with_world.2);
      numbered = sym (ap (λ (h : Held). h.number) with_world.2);
      count = omega (arith, ap (λ (h : Held). h.count) with_world.2);
    }

-- a row of batches and the world that they make
pub record Row (g number : ℕ) (w : StoredWorld) (bs : List (List ℕ)) (v : StoredWorld) : Type 0 where
  pub batches : AreBatches g number w bs
  pub whole : front_world g (length bs) bs w ≡ v

row_nothing : (g number : ℕ) (w v : StoredWorld) → v ≡ w → Row g number w [] v
unfolding front_world
row_nothing g number w v e = record { batches = tt; whole = sym e }

row_more : (g number : ℕ) (w u v : StoredWorld) (bytes : List ℕ) (bs : List (List ℕ)) (b : Read) → fed_body_in g bytes ≡ Ok b → b.number ≡ number → laid_in b.version b.payload w ≡ Some u → Row g (after_number number) u bs v → Row g number w (bytes ∷ bs) v
unfolding front_world
row_more g number w u v bytes bs b reads numbered lays row = record {
  batches = (u, record { body = b; reads = reads; numbered = numbered; lays = lays }, row.batches);
  whole = ap (front_world g (length bs) bs) (ap (λ r. or_else_world (laid_body r w) w) reads ∙ ap (λ o. or_else_world o w) lays) ∙ row.whole;
}

ties : (g : ℕ) (held to : Held) (bs : List (List ℕ)) → AllBytes bs → 0 < held.count → held.generation ≡ g → Lead held bs to → Row g (after_number held.number) held.world bs to.world
ties g held to [] are some gen lead = row_nothing g (after_number held.number) held.world to.world (ap (λ (h : Held). h.world) lead)
ties g held to (b ∷ bs) (are, others) some gen lead =
    let j = joined lead.0 held lead.1 b are lead.2 in
    let more = ties g lead.1 to bs others j.count (j.generation ∙ gen) lead.3 in
    row_more g (after_number held.number) held.world lead.1.world to.world b bs j.body (ap (λ k. fed_body_in k b) (sym gen) ∙ j.reads) (j.follows some) j.lays
    (subst (λ n. Row g (after_number n) lead.1.world bs to.world) (j.numbered ∙ j.follows some) more)

pub rows : (g : ℕ) (to : Held) (bs : List (List ℕ)) → AllBytes bs → Lead (begin g) bs to → Row g (first_number bs) start bs to.world
unfolding begin
rows g to [] are lead = row_nothing g 1 start to.world (ap (λ (h : Held). h.world) lead)
rows g to (b ∷ bs) (are, others) lead =
    let j = joined lead.0 (begin g) lead.1 b are lead.2 in
    let more = ties g lead.1 to bs others j.count j.generation lead.3 in
    row_more g (body_number b) start lead.1.world to.world b bs j.body j.reads j.number j.lays (subst (λ n. Row g (after_number n) lead.1.world bs to.world) (j.numbered ∙ j.number) more)

-- The bodies of bytes are bytes, and no more than these.

pub all_bytes : (n : ℕ) (file : List ℕ) → AreBytes file → AllBytes (bodies_up_to n file)
unfolding bodies_up_to
all_bytes zero file are = tt
all_bytes (suc n) [] are = tt
all_bytes (suc n) (g ∷ []) are = tt
all_bytes (suc n) (g ∷ x ∷ rest) are =
    let size = from_be_bytes w64 (take 8 (x ∷ rest)) in
    by_gate (eqb g 1) (all_bytes n (drop (8 + size) (x ∷ rest)) (drop_bytes (8 + size) (x ∷ rest) (λ i. are (suc i))))
  where
    size : ℕ
    size = from_be_bytes w64 (take 8 (x ∷ rest))

    tail : AreBytes (x ∷ rest)
    tail i = are (suc i)

    by_size : (b : Bool) → AllBytes (bodies_up_to n (drop (8 + size) (x ∷ rest))) → AllBytes (if b then take size (drop 8 (x ∷ rest)) ∷ bodies_up_to n (drop (8 + size) (x ∷ rest)) else [])
    by_size true more = (take_bytes size (drop 8 (x ∷ rest)) (drop_bytes 8 (x ∷ rest) tail), more)
    by_size false more = tt

    by_gate : (b : Bool) → AllBytes (bodies_up_to n (drop (8 + size) (x ∷ rest))) → AllBytes (if b then (if leb (8 + size) (length (x ∷ rest)) then take size (drop 8 (x ∷ rest)) ∷ bodies_up_to n (drop (8 + size) (x ∷ rest)) else []) else [])
    by_gate true more = by_size (leb (8 + size) (length (x ∷ rest))) more
    by_gate false more = tt

pub few : (n : ℕ) (file : List ℕ) → length (bodies_up_to n file) ≤ n
unfolding bodies_up_to
few zero file = omega arith
few (suc n) [] = omega arith
few (suc n) (g ∷ []) = omega arith
few (suc n) (g ∷ x ∷ rest) = by_gate (eqb g 1) (few n (drop (8 + from_be_bytes w64 (take 8 (x ∷ rest))) (x ∷ rest)))
  where
    size : ℕ
    size = from_be_bytes w64 (take 8 (x ∷ rest))

    by_size : (b : Bool) (more : List (List ℕ)) → length more ≤ n → length (if b then take size (drop 8 (x ∷ rest)) ∷ more else []) ≤ suc n
    by_size true more le = omega (arith, le)
    by_size false more le = omega arith

    by_gate : (b : Bool) → length (bodies_up_to n (drop (8 + size) (x ∷ rest))) ≤ n → length (if b then (if leb (8 + size) (length (x ∷ rest)) then take size (drop 8 (x ∷ rest)) ∷ bodies_up_to n (drop (8 + size) (x ∷ rest)) else []) else []) ≤ suc n
    by_gate true le = by_size (leb (8 + size) (length (x ∷ rest))) (bodies_up_to n (drop (8 + size) (x ∷ rest))) le
    by_gate false le = omega arith

-- Numbers are below 2 ^ 64.

word_small : (bs : List ℕ) → AreBytes bs → from_be_bytes w64 bs < 2 ^ 64
word_small bs are = omega (arith, are 0, are 1, are 2, are 3, are 4, are 5, are 6, are 7)

number_small : (bytes : List ℕ) → AreBytes bytes → body_number bytes < 2 ^ 64
unfolding body_of
number_small bytes are = by (leb 25 (length bytes) && bytes_eq (take 5 bytes) magic)
  where
    parsed : Body
    parsed = record { generation = from_be_bytes w64 (take 8 (drop 5 bytes)); number = from_be_bytes w64 (take 8 (drop 13 bytes)); payload = drop 21 bytes }

    by : (t : Bool) → option_map_or (λ (b : Body). b.number) (if t then Some parsed else None) 0 < 2 ^ 64
    by true = word_small (take 8 (drop 13 bytes)) (take_bytes 8 (drop 13 bytes) (drop_bytes 13 bytes are))
    by false = omega arith

pub small_first : (bs : List (List ℕ)) → AllBytes bs → first_number bs < 2 ^ 64
small_first [] are = omega arith
small_first (b ∷ bs) (are, others) = number_small b are
