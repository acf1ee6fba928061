-- Texts of locks with what they are read as, and where reading fails.
use Rattle.std.specs.Prelude.{◌≡◌, ℕ, pos, true, false, [], Some, None, Ok, Err, codes, refl, bytes_eq, if◌then◌else◌}
use Rattle.muck_model.specs.Decimal.{decimal_of}
use Rattle.muck_model.specs.Numbers.{dbref_written, dbref_numbered}
use Rattle.muck_model.specs.declared.lock.Lock.{Lock}
use Rattle.muck_model.specs.declared.lock.Lock.TheVariants.{Free, Object, Prop, Not, Both, Either}
use Rattle.muck_lock.specs.Naming.{Naming}
use Rattle.muck_lock.specs.Paths.{is_path}
use Rattle.muck_lock.specs.Grammar.{lock_of, part_of}

-- Two is #2, the song is #5 and a program
abbrev names : Naming
names = record {
  find = λ name. if bytes_eq name (codes "*Two") then Some (dbref_numbered (pos 2)) else if bytes_eq name (codes "song") then Some (dbref_numbered (pos 5)) else None;
  is_program = λ d. true;
}

abbrev no_programs : Naming
no_programs = record names { is_program = λ d. false }

abbrev n : ℕ → Lock
n k = Object (dbref_numbered (pos k))

pub record Rows : Type 0 where
  pub row_one : lock_of no_programs (codes "#1&!*Two|sex:male") ≡ Ok (Either (Both (n 1) (Not (n 2))) (Prop (codes "sex") (codes "male")))
  pub row_free : lock_of names [] ≡ Ok Free
  pub row_program : lock_of names (codes "a:b|#5") ≡ Err 4
  pub row_groups : lock_of no_programs (codes "(#1|#2)&#3&!(song|#4)") ≡ Ok (Both (Either (n 1) (n 2)) (Both (n 3) (Not (Either (n 5) (n 4)))))
  pub row_open : lock_of no_programs (codes "(#1") ≡ Err 3
  pub row_behind : lock_of no_programs (codes "(#1)#2") ≡ Err 4
  pub row_closing : lock_of no_programs (codes "#1)") ≡ Err 2
  pub row_nothing : lock_of no_programs (codes "#1|") ≡ Err 3
  pub row_space : lock_of no_programs (codes "#1 & #2") ≡ Err 0
  pub row_name : lock_of no_programs (codes "!!nobody") ≡ Err 2
  pub row_path : lock_of no_programs (codes "//:x") ≡ Err 0
  pub row_value : lock_of no_programs (codes "a/B/:x:y(") ≡ Ok (Prop (codes "a/B/") (codes "x:y("))
  pub row_segments : is_path (codes "/a//b/c/d/e/f/g/h/i/j/k/l/m/n/o/p/") ≡ true
  pub row_deep : is_path (codes "a/b/c/d/e/f/g/h/i/j/k/l/m/n/o/p/q") ≡ false

pub rows : Rows
unfolding part_of dbref_written decimal_of
rows = record { row_one = refl; row_free = refl; row_program = refl; row_groups = refl; row_open = refl; row_behind = refl; row_closing = refl; row_nothing = refl; row_space = refl; row_name = refl; row_path = refl; row_value = refl; row_segments = refl; row_deep = refl }
