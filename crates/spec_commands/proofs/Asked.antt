-- What a word asks to be set.
use Rattle.std.proofs.Common.{◌≡◌, ℕ, Bool, true, false, cond, List, [], ◌∷◌, codes, nat_le, Option, Some, None, IfSome, refl}
use Rattle.std.specs.Prelude.{◌==◌, ◌||◌, ◌&&◌}
use Rattle.std.specs.Option.{option_map}
use Rattle.std.specs.List.{list_any}
use Rattle.std.specs.Char.{to_ascii_uppercase}
use Rattle.muck_model.specs.declared.dbref.Flags.{Flags}
use Rattle.spec_live.specs.Flags.{flag_of}
use Rattle.spec_rights.specs.Changing.{is_flag}
use Rattle.spec_commands.specs.declared.setting.Setting.{Setting}
use Rattle.spec_commands.specs.declared.setting.Setting.TheVariants.{Flag, NoFlag, Level}
use Rattle.spec_commands.specs.Settings.{flag_lettered, setting_asked, is_setting}

abbrev one : ℕ → Flags
one value = record { 0 = value }

either_flag : (b : Bool) (x y : ℕ) → is_flag (one x) ≡ true → is_flag (one y) ≡ true → is_flag (one (cond b x y)) ≡ true
either_flag true x y p q = p
either_flag false x y p q = q

-- each letter has one flag
pub flag_of_is_one : (letter : ℕ) → is_flag (record { 0 = flag_of letter }) ≡ true
flag_of_is_one letter =
    either_flag (letter == 65) 1 _ refl (either_flag (letter == 66) 2 _ refl (either_flag (letter == 67) 4 _ refl (either_flag (letter == 68) 8 _ refl
    (either_flag (letter == 72) 16 _ refl (either_flag (letter == 74) 32 _ refl (either_flag (letter == 75) 64 _ refl (either_flag (letter == 76) 128 _ refl
    (either_flag (letter == 81) 256 _ refl (either_flag (letter == 83) 512 _ refl (either_flag (letter == 86) 1024 _ refl (either_flag (letter == 87) 2048 _ refl
    (either_flag (letter == 88) 4096 8192 refl refl))))))))))))

-- Whatever is asked of a flag is asked of one.

abbrev IsOne : Option Setting → Type 0
IsOne asked = IfSome asked (λ setting. is_setting setting ≡ true)

one_if : (b : Bool) (flag : Flags) → is_flag flag ≡ true → IfSome (cond b (Some flag) None) (λ f. is_flag f ≡ true)
one_if true flag h = h
one_if false flag h = tt

lettered_one : (letter : ℕ) → IfSome (flag_lettered letter) (λ f. is_flag f ≡ true)
lettered_one letter = one_if (list_any (λ other. other == to_ascii_uppercase letter) (codes "ABCDHJKLQSVWXZ")) _ (flag_of_is_one (to_ascii_uppercase letter))

set_one : (flag : Option Flags) → IfSome flag (λ f. is_flag f ≡ true) → IsOne (option_map Flag flag)
set_one (Some flag) h = h
set_one None h = tt

cleared_one : (flag : Option Flags) → IfSome flag (λ f. is_flag f ≡ true) → IsOne (option_map NoFlag flag)
cleared_one (Some flag) h = h
cleared_one None h = tt

level_one : (b : Bool) (level : ℕ) → IsOne (cond b (Some (Level level)) None)
level_one true level = refl
level_one false level = tt

either_one : (b : Bool) (x y : Option Setting) → IsOne x → IsOne y → IsOne (cond b x y)
either_one true x y p q = p
either_one false x y p q = q

pub asked_is_one : (word : List ℕ) → IfSome (setting_asked word) (λ setting. is_setting setting ≡ true)
unfolding setting_asked
asked_is_one [] = tt
asked_is_one (letter ∷ []) = set_one (flag_lettered letter) (lettered_one letter)
asked_is_one (sign ∷ letter ∷ []) =
    either_one (sign == 33) _ _ (cleared_one (flag_lettered letter) (lettered_one letter))
    (either_one (sign == 77 || sign == 109) _ _ (level_one (nat_le 48 letter && nat_le letter 51) _) tt)
asked_is_one (a ∷ b ∷ c ∷ word) = tt
