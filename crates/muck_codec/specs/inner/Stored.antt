-- What has a spelling.
use Rattle.std.specs.Prelude.{◌≡◌, ℕ, ◌<◌, ◌≤◌, ◌^◌, true, false, pos, List, [], ◌∷◌, ◌++◌, length, Option, Some, None, Result, Ok, Err, FitsSigned}
use Rattle.std.specs.Int.{w32}
use Rattle.std.specs.Ordering.{int_eq}
use Rattle.muck_model.specs.Bytes.{text_fault, text_most, lines_most}
use Rattle.muck_model.specs.declared.dbref.Dbref.{Dbref}
use Rattle.muck_model.specs.declared.tune.Tune.{Tune}
use Rattle.muck_model.specs.Parameters.{values_of}
use Rattle.muck_prop.specs.Paths.{IsPath}
use Rattle.muck_prop.specs.declared.value.PropValue.{PropValue}
use Rattle.muck_prop.specs.declared.value.PropValue.TheVariants.{Text, Number}
use Rattle.muck_codec.specs.declared.stored.Stored.{Stored}
use Rattle.muck_codec.specs.declared.stored.Property.{Property}
use Rattle.muck_codec.specs.declared.fault.CodecFault.{CodecFault}
use Rattle.muck_codec.specs.declared.fault.CodecFault.TheVariants.{BadRecord, NoMemory}
use Rattle.muck_codec.specs.Records.{rises}
use Rattle.muck_codec.specs.Spelling.{spelling}

-- a number of 32 bits with their sign
abbrev pub IsDbref : Dbref → Type 0
IsDbref d = FitsSigned w32 d.0

-- a text within these bounds
abbrev pub IsText : ℕ → ℕ → List ℕ → Type 0
IsText least most text = ((least ≤ length text) × (length text ≤ most)) × (text_fault text ≡ None)

abbrev pub IsValue : PropValue → Type 0
IsValue (Text text) = IsText 1 text_most text
IsValue (Number n) = FitsSigned w32 n × (int_eq n (pos 0) ≡ false)

-- a path behind the one before, and a value that isn't nothing
abbrev pub IsProperty : Option (List (List ℕ)) → Property → Type 0
IsProperty before p = (IsPath p.path × (rises before p.path ≡ true)) × IsValue p.value

-- each thing is as its rule says, with the key of the one before it
abbrev pub Run : {A K : Type 0} → (A → K) → (Option K → A → Type 0) → Option K → List A → Type 0
Run key rule before [] = Unit {0}
Run key rule before (x ∷ xs) = rule before x × Run key rule (Some (key x)) xs

-- a number of 32 bits
abbrev pub IsWord : Option ℕ → ℕ → Type 0
IsWord before n = n < 2 ^ 32

abbrev pub AreWords : List ℕ → Type 0
AreWords ns = Run (λ n. n) IsWord None ns

-- each parameter is one
abbrev pub IsTune : Tune → Type 0
IsTune tune = AreWords (values_of tune)

abbrev pub AreProperties : List Property → Type 0
AreProperties ps = (length ps < 2 ^ 64) × Run (λ p. p.path) IsProperty None ps

abbrev pub IsLine : Option (List ℕ) → List ℕ → Type 0
IsLine before line = IsText 0 text_most line

abbrev pub AreLines : List (List ℕ) → Type 0
AreLines lines = ((0 ≤ length lines) × (length lines ≤ lines_most)) × Run (λ line. line) IsLine None lines

-- the record of an object
pub record IsStored (o : Stored) : Type 0 where
  pub dbref : IsDbref o.dbref
  pub flags : o.flags.0 < 2 ^ 16
  pub level : o.level < 2 ^ 8
  pub ties : IsDbref o.owner × (IsDbref o.place × (IsDbref o.link × IsDbref o.home))
  pub lists : IsDbref o.first_content × (IsDbref o.first_exit × IsDbref o.next)
  pub name : IsText 0 text_most o.name
  pub props : AreProperties o.props
  pub lines : AreLines o.lines
  pub digest : IsText 0 text_most o.digest

-- what was read is spelled so, and as many bytes were taken
pub record IsSpelled (o : Stored) (n : ℕ) (bytes : List ℕ) : Type 0 where
  pub rest : List ℕ
  pub parts : bytes ≡ spelling o ++ rest
  pub size : n ≡ length (spelling o)
  pub fits : IsStored o

-- the answer is this record, and as many bytes as its spelling has, unless memory ran out
abbrev pub Takes : Stored → Result (Stored × ℕ) CodecFault → Type 0
Takes o (Ok taken) = (taken.0 ≡ o) × (taken.1 ≡ length (spelling o))
Takes o (Err (BadRecord at)) = ⊥
Takes o (Err NoMemory) = Unit {0}
