-- Lemmas on what was written so far.
use Rattle.std.proofs.Common.{◌≡◌, ℕ, ◌<◌, List, [], ◌++◌, length, take, drop, sym, ◌∙◌, ap, subst, append_assoc, Option, Some, None}
use Rattle.std.proofs.lemmas.List.{append-nil}
use Rattle.std.proofs.Math.Seq.{take-append_seam}
use Rattle.muck_laws.proofs.Lists.{short_of}
use Rattle.muck_laws.proofs.Parts.{regroup}
use Rattle.muck_io.specs.Faults.{Rose}
use Rattle.muck_io.specs.Sink.{Appends, AppendsFront, BrokeWriting}

-- what was written so far, with what is still to come, is all
pub record IsPart (all rest : List ℕ) (before now : Option (List ℕ)) : Type 0 where
  pub part : List ℕ
  pub whole : part ++ rest ≡ all
  pub appended : Appends before now part

-- one piece behind another
pub appends_twice : (a b c : Option (List ℕ)) (x y : List ℕ) → Appends a b x → Appends b c y → Appends a c (x ++ y)
appends_twice None b c x y p q = tt
appends_twice (Some w) b c x y p q =
    let P : Option (List ℕ) → Type 0 = λ b'. Appends b' c y in
    let step : c ≡ Some ((w ++ x) ++ y) = subst P p q in
    step ∙ ap Some (append_assoc w x y)

-- a further piece was written
pub part_goes_on : (all rest : List ℕ) (a b c : Option (List ℕ)) (n : ℕ) → IsPart all rest a b → Appends b c (take n rest) → IsPart all (drop n rest) a c
part_goes_on all rest a b c n p h = record {
  part = p.part ++ take n rest;
  whole = regroup p.part rest all n p.whole;
  appended = appends_twice a b c p.part (take n rest) p.appended h;
}

-- what was written is the front of this length
front_is : (all rest : List ℕ) (a b : Option (List ℕ)) (p : IsPart all rest a b) → Appends a b (take (length p.part) all)
front_is all rest a b p =
    let e : p.part ≡ take (length p.part) all = sym (take-append_seam p.part rest) ∙ ap (λ xs. take (length p.part) xs) p.whole in
    let P : List ℕ → Type 0 = Appends a b in
    subst P e p.appended

-- a front of all was written
pub front_of : (all rest : List ℕ) (a b : Option (List ℕ)) → IsPart all rest a b → AppendsFront a b all
front_of all rest a b p = (length p.part, front_is all rest a b p)

-- nothing more was written
pub part_failed : (all rest : List ℕ) (a b c : Option (List ℕ)) → IsPart all rest a b → c ≡ b → AppendsFront a c all
part_failed all rest a b c p e = let P : Option (List ℕ) → Type 0 = λ b'. AppendsFront a b' all in subst P (sym e) (front_of all rest a b p)

-- a write that changed nothing appended nothing
pub nothing_more : (a b : Option (List ℕ)) → b ≡ a → Appends a b []
nothing_more None b e = tt
nothing_more (Some w) b e = e ∙ ap Some (sym (append-nil w))

-- a fault came where a part was written, and bytes were still to come
pub broke_writing :
    (K : Type 0) (written : K → Option (List ℕ)) (faults : K → ℕ) (before last now : K) (all rest : List ℕ)
    → IsPart all rest (written before) (written last) → 0 < length rest → faults last ≡ faults before
    → Rose (faults last) (faults now) → Appends (written last) (written now) []
    → BrokeWriting K written faults before now all
broke_writing K written faults before last now all rest p more fine rose still = record {
  last = last;
  count = length p.part;
  short = short_of p.part rest all p.whole more;
  front = front_is all rest (written before) (written last) p;
  fine = fine;
  rose = rose;
  still = still;
}
