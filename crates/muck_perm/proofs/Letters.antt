-- An object without flags has no letters.
use Rattle.std.proofs.Common.{◌≡◌, ℕ, false, cond, List, [], ◌∷◌, refl, ap, ◌∙◌, arith}
use Rattle.std.specs.List.{filter}
use Rattle.muck_model.specs.declared.dbref.Flags.{Flags}
use Rattle.spec_live.specs.Flags.{has_flag, flag_of}

none_set : (flag : ℕ) (flags : Flags) → flags.0 ≡ 0 → has_flag flag flags ≡ false
none_set flag flags e = grind arith

pub no_letters : (letters : List ℕ) (flags : Flags) → flags.0 ≡ 0 → filter (λ letter. has_flag (flag_of letter) flags) letters ≡ []
no_letters [] flags e = refl
no_letters (letter ∷ letters) flags e =
    ap (λ b. cond b (letter ∷ filter (λ l. has_flag (flag_of l) flags) letters) (filter (λ l. has_flag (flag_of l) flags) letters)) (none_set (flag_of letter) flags e)
    ∙ no_letters letters flags e
