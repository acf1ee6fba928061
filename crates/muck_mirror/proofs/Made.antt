-- A batch that was laid over a world.
use Rattle.std.proofs.Common.{◌≡◌, ℕ, Bool, true, false, List, length, Option, Some, None, option_and_then, refl, sym, ◌∙◌, ap, subst}
use Rattle.std.specs.Prelude.{All, if◌then◌else◌}
use Rattle.std.proofs.lemmas.Option.{same_Some, none-some}
use Rattle.muck_model.specs.declared.tune.Tune.{Tune}
use Rattle.muck_codec.specs.inner.Stored.{IsStored}
use Rattle.muck_codec.specs.declared.stored.Stored.{Stored}
use Rattle.muck_codec.specs.declared.stored.Batch.{Batch}
use Rattle.muck_log.specs.World.{StoredWorld, IsFine, is_fine, judged_world, laid_over, all_placed}
use Rattle.muck_mirror.specs.Laying.{IsSound}
use Rattle.muck_mirror.specs.declared.world.Replaced.{Replaced}
use Rattle.muck_mirror.specs.inner.Undoing.{AreLaid, undone}

abbrev held : List Stored → Tune → StoredWorld
held objects tune = record { objects = objects; tune = tune }

pub made : (yes : Bool) (b : Batch) (old now : List Stored) (tune : Tune) (w : StoredWorld) → yes ≡ true → AreLaid yes b old now → held old tune ≡ w → laid_over b w ≡ Some (held now b.tune)
unfolding laid_over
made true b old now tune w e laid is = ap (laid_over b) (sym is) ∙ laid
made false b old now tune w e laid is = absurd cc

pub never_made : (yes : Bool) (b : Batch) (old now : List Stored) (tune : Tune) (w : StoredWorld) → yes ≡ false → AreLaid yes b old now → held old tune ≡ w → laid_over b w ≡ None
unfolding laid_over
never_made false b old now tune w e laid is = ap (laid_over b) (sym is) ∙ laid
never_made true b old now tune w e laid is = absurd cc

-- what was made can be undone
pub unmade : (count : ℕ) (old now : List Stored) (rs : List Replaced) (tune : Tune) (w : StoredWorld) → count ≡ length old → undone (length old) rs now ≡ old → held old tune ≡ w → held (undone count rs now) tune ≡ w
unmade count old now rs tune w n back is = ap (λ o. held o tune) (ap (λ m. undone m rs now) n ∙ back) ∙ is

judged_fine : (tune : Tune) (o : Option (List Stored)) (v : StoredWorld) → option_and_then (judged_world tune) o ≡ Some v → IsFine v
judged_fine tune None v e = absurd (none-some v e)
judged_fine tune (Some l) v e = by (is_fine l tune) refl e
  where
    by : (b : Bool) → is_fine l tune ≡ b → (if b then Some (held l tune) else None) ≡ Some v → IsFine v
    by true f e = subst IsFine (same_Some (held l tune) v e) f
    by false f e = absurd (none-some v e)

pub sound_made : (yes : Bool) (b : Batch) (old now : List Stored) → yes ≡ true → AreLaid yes b old now → All IsStored now → IsSound (held now b.tune)
unfolding laid_over
sound_made true b old now e laid stored = record { fine = judged_fine b.tune (all_placed b.records old) (held now b.tune) laid; stored = stored }
sound_made false b old now e laid stored = absurd cc

-- the same of what is there by another name
pub moved : (now then_ : List Stored) (tune : Tune) (w : StoredWorld) → now ≡ then_ → held then_ tune ≡ w → held now tune ≡ w
moved now then_ tune w is held_is = ap (λ o. held o tune) is ∙ held_is
