-- The words of the model allow what they should.
use Rattle.std.proofs.Common.{ℕ, ◌≤◌, ◌<◌, IsTrue, List, inl, inr, refl, arith}
use Rattle.muck_disk.specs.inner.Laws.{TornAny, SameAny, OnlyAny, ElapsesOn, ElapsesAny, loosest}
use Rattle.muck_disk.proofs.Tears.{torn_any}

pub torn : TornAny
torn = λ at n old x within short. torn_any at n old x within short

pub same : SameAny
same = λ file. refl

pub only : OnlyAny
only = λ images file is. is

elapses_on : (past : ℕ → List ℕ → Type 0) (step : List ℕ → List ℕ → Type 0) → ElapsesOn past step
elapses_on past step = λ before now le. record {
  later = le;
  kept = λ t c le left. was before t c le left;
  stays = λ t c le left. inl (le, left);
  comes = λ t c lt le left. comes before t c lt left;
}
  where
    was : (before t : ℕ) (c : List ℕ) → t ≤ before → loosest before past step t c → past t c
    was before t c le (inl left) = left.1
    was before t c le (inr left) = absurd (omega (arith, le, left.0))

    comes : (before t : ℕ) (c : List ℕ) → before < t → loosest before past step t c → (d : List ℕ) × past before d × step d c
    comes before t c lt (inl left) = absurd (omega (arith, lt, left.0))
    comes before t c lt (inr left) = left.1

pub elapses : ElapsesAny
elapses = λ past step. elapses_on (λ t c. IsTrue (past t c)) (λ d c. IsTrue (step d c))
