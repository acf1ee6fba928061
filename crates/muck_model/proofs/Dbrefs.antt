-- The test of numbers of objects.
use Rattle.std.proofs.Common.{◌≡◌, ℤ, true, ap}
use Rattle.std.proofs.lemmas.Bool.Decides.{Decides-int_eq}
use Rattle.muck_model.specs.declared.dbref.Dbref.{Dbref}
use Rattle.muck_model.specs.Dbrefs.{same}

pub same_eq : (x y : Dbref) → x ≡ y → same x y ≡ true
same_eq x y e = (Decides-int_eq x.0 y.0).1 (ap (λ (d : Dbref). d.0) e)

pub eq_same : (x y : Dbref) → same x y ≡ true → x ≡ y
eq_same x y e = let make : ℤ → Dbref = λ z. record { 0 = z } in ap make ((Decides-int_eq x.0 y.0).0 e)
