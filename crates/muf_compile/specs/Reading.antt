-- What each word of a source asks for: by what it follows, and by what its name means.
use Rattle.std.specs.Prelude.{◌≡◌, ℕ, zero, suc, ◌+◌, Bool, true, false, ◌||◌, ◌==◌, nat_lt, if◌then◌else◌, List, [], ◌∷◌, length, Option, Some, None, is_some, option_map, Result, Ok, Err, codes}
use Rattle.std.specs.Str.{bytes_eq}
use Rattle.std.specs.Map.{lookup}
use Rattle.std.specs.Option.{option_or}
use Rattle.indexmap.specs.IndexMap.{insert_entry}
use Rattle.muf_model.specs.declared.code.VarId.{VarId}
use Rattle.muf_model.specs.declared.code.Offer.{Offer}
use Rattle.muf_model.specs.declared.code.Offer.TheVariants.{Wizards, All}
use Rattle.muf_model.specs.declared.code.Literal.TheVariants as literal
use Rattle.muf_model.specs.declared.code.Word.{Word}
use Rattle.muf_model.specs.declared.code.Word.TheVariants as item
use Rattle.muf_model.specs.Prims.{is_usable, named_in_any_case}
use Rattle.muf_token.specs.declared.token.Token.{Token}
use Rattle.muf_token.specs.declared.token.TokenKind.{TokenKind}
use Rattle.muf_token.specs.declared.token.TokenKind.TheVariants as token
use Rattle.muf_compile.specs.declared.act.Opening.TheVariants as opening
use Rattle.muf_compile.specs.declared.act.Act.{Act}
use Rattle.muf_compile.specs.declared.act.Act.TheVariants as act
use Rattle.muf_compile.specs.declared.act.Reading.{Reading}
use Rattle.muf_compile.specs.declared.control.Control.{Control}
use Rattle.muf_compile.specs.declared.control.Control.TheVariants as control
use Rattle.muf_compile.specs.declared.names.Meaning.{Meaning}
use Rattle.muf_compile.specs.declared.names.Meaning.TheVariants as meaning
use Rattle.muf_compile.specs.declared.names.Wanted.{Wanted}
use Rattle.muf_compile.specs.declared.names.Wanted.TheVariants as wanted
use Rattle.muf_compile.specs.declared.names.Mode.{Mode}
use Rattle.muf_compile.specs.declared.names.Mode.TheVariants as mode
use Rattle.muf_compile.specs.declared.fault.Refusal.{Refusal}
use Rattle.muf_compile.specs.declared.fault.CompileFault.{CompileFault}
use Rattle.muf_compile.specs.declared.fault.CompileFault.TheVariants.{Refused, NoMemory}
use Rattle.muf_compile.specs.declared.fault.CompileKind.{CompileKind}
use Rattle.muf_compile.specs.declared.fault.CompileKind.TheVariants.{UnknownWord, DoubleName, BadHeader, TooLong}
use Rattle.muf_compile.specs.Faults.{refuse, and_then}
use Rattle.muf_compile.specs.Names.{control_of, standing_of}

-- the most variables of a program, and of a word
unfoldable pub variables_most : ℕ
variables_most = 64

-- What is known at a place of a source: the names of the program's words and variables, how many variables there are,
-- the names of the present word's variables, and what may come next.
pub record Known : Type 0 where
  pub names : List (List ℕ × Meaning)
  pub variables : ℕ
  pub locals : List (List ℕ × VarId)
  pub mode : Mode

-- what is known behind a word, and what that word asks for; or why it is refused
abbrev pub Read : Type 0
Read = Result (Known × Reading) Refusal

-- this act, and nothing else changes
abbrev pub acts : ℕ → Act → Known → Read
acts line a k = Ok (k, record { line = line; act = a })

abbrev pub with_mode : Mode → Known → Known
with_mode m k = record k { mode = m }

-- nothing yet: first a name has to follow
abbrev pub wants : ℕ → Wanted → Known → Read
wants line w k = acts line act.Wait (with_mode (mode.Naming w) k)

-- what a name of the program's stands for
abbrev pub item_of : Meaning → Word
item_of (meaning.Word n) = item.Call n
item_of (meaning.Variable v) = item.Variable v

-- the item that a word stands for: a variable of the present word, a word or variable of the program, a variable of
-- the process, or a primitive
unfoldable pub item_named : List ℕ → Known → Option Word
item_named name k =
    option_or (option_map item.Variable (lookup (bytes_eq name) k.locals))
    (option_or (option_map item_of (lookup (bytes_eq name) k.names))
    (option_or (option_map item.Variable (standing_of name)) (option_map item.Primitive (named_in_any_case name))))

-- whether programs may use an item so far
abbrev pub may_use : Word → Bool
may_use (item.Primitive p) = is_usable p
may_use _ = true

-- the item, where programs may use it
abbrev pub usable : Option Word → Option Word
usable (Some w) = if may_use w then Some w else None
usable None = None

-- the number of the word that has this name
abbrev pub word_number_in : Option Meaning → Option ℕ
word_number_in (Some (meaning.Word n)) = Some n
word_number_in _ = None

abbrev pub word_number : List ℕ → Known → Option ℕ
word_number name k = word_number_in (lookup (bytes_eq name) k.names)

-- whether a word is empty
abbrev pub is_empty : List ℕ → Bool
is_empty [] = true
is_empty (b ∷ bytes) = false

-- whether a word can't be a name: it is empty, or a word of the structure
abbrev pub is_unfit : List ℕ → Bool
is_unfit name = is_empty name || is_some (control_of name)

-- why a word can't be a new name
unfoldable pub new_name_fault : List ℕ → Known → Option CompileKind
new_name_fault name k =
    if is_unfit name then Some BadHeader
    else if is_some (item_named name k) then Some DoubleName
    else None

-- what follows, unless there is a fault at this line
abbrev pub read_unless : {A : Type 0} → ℕ → Option CompileKind → Result A Refusal → Result A Refusal
read_unless line None rest = rest
read_unless line (Some kind) rest = refuse line kind

-- one variable more of the program
abbrev pub shared_variable : ℕ → List ℕ → Known → Read
shared_variable line name k =
    read_unless line (new_name_fault name k)
    (if nat_lt k.variables variables_most
    then acts line act.Wait (record k { names = insert_entry bytes_eq k.names name (meaning.Variable (record { 0 = 4 + k.variables })); variables = k.variables + 1; mode = mode.Outside })
    else refuse line TooLong)

-- one variable more of the present word, and its number
abbrev pub own_variable : ℕ → List ℕ → Mode → Known → Result (Known × VarId) Refusal
own_variable line name m k =
    read_unless line (new_name_fault name k)
    (if nat_lt (length k.locals) variables_most
    then Ok (record k { locals = insert_entry bytes_eq k.locals name (record { 0 = 68 + length k.locals }); mode = m }, record { 0 = 68 + length k.locals })
    else refuse line TooLong)

-- a declaration of a variable makes nothing
abbrev pub waiting : ℕ → Known × VarId → Read
waiting line p = acts line act.Wait p.0

-- `var!` stores into the new variable
abbrev pub storing_word : ℕ → Known × VarId → Read
storing_word line p = acts line (act.Item (item.Store p.1)) p.0

-- the name before a last `[`, where there is one
abbrev pub before_bracket : List ℕ → Option (List ℕ)
before_bracket [] = None
before_bracket (b ∷ []) = if b == 91 then Some [] else None
before_bracket (b ∷ c ∷ bytes) = option_map (λ name. b ∷ name) (before_bracket (c ∷ bytes))

-- the word of this number begins; its `:` stands at `at`
abbrev pub titled_as : ℕ → ℕ → List ℕ → Mode → Known → Read
titled_as number line name m k =
    read_unless line (new_name_fault name k) (acts line (act.Title name) (record k { names = insert_entry bytes_eq k.names name (meaning.Word number); mode = m }))

abbrev pub titled_by : ℕ → ℕ → ℕ → List ℕ → Option (List ℕ) → Known → Read
titled_by number at line word (Some name) k = titled_as number line name (mode.Heading at) k
titled_by number at line word None k = titled_as number line word mode.Inside k

abbrev pub titled : ℕ → ℕ → ℕ → List ℕ → Known → Read
titled number at line word k = titled_by number at line word (before_bracket word) k

-- a word of the program is offered
abbrev pub offered_as : ℕ → Offer → Option ℕ → Known → Read
offered_as line o (Some n) k = acts line (act.Offer n o) (with_mode mode.Outside k)
offered_as line o None k = refuse line UnknownWord

abbrev pub offered : ℕ → Offer → List ℕ → Known → Read
offered line o name k = if is_unfit name then refuse line BadHeader else offered_as line o (word_number name k) k

-- the name that a declaration wants
abbrev pub name_wanted : ℕ → ℕ → Wanted → List ℕ → Known → Read
name_wanted number line (wanted.Title at) name k = titled number at line name k
name_wanted number line wanted.Shared name k = shared_variable line name k
name_wanted number line (wanted.Offered o) name k = offered line o name k
name_wanted number line wanted.Own name k = and_then (own_variable line name mode.Inside k) (waiting line)
name_wanted number line (wanted.Stored at) name k = and_then (own_variable line name mode.Inside k) (storing_word at)

-- a word behind a declaration
abbrev pub read_name : ℕ → ℕ → Wanted → TokenKind → Known → Read
read_name number line w (token.Word name) k = name_wanted number line w name k
read_name number line w _ k = refuse line BadHeader

-- the binding of so many arguments, if any
abbrev pub binding : ℕ → Act
binding zero = act.Wait
binding (suc n) = act.Item (item.Bind (suc n))

-- `]` ends a header whose `:` stands at `at`
abbrev pub header_end : ℕ → Known → Read
header_end at k = acts at (binding (length k.locals)) (with_mode mode.Inside k)

-- a word of a header: the names of arguments
abbrev pub argument : ℕ → ℕ → List ℕ → Known → Read
argument at line name k =
    if bytes_eq name (codes "]") then header_end at k
    else if bytes_eq name (codes "--") then acts line act.Wait (with_mode (mode.Results at) k)
    else and_then (own_variable line name (mode.Heading at) k) (waiting line)

abbrev pub read_argument : ℕ → ℕ → TokenKind → Known → Read
read_argument at line (token.Word name) k = argument at line name k
read_argument at line _ k = refuse line BadHeader

-- a word of a header behind `--`: all but `]` is passed over
abbrev pub read_result : ℕ → ℕ → TokenKind → Known → Read
read_result at line (token.Word name) k = if bytes_eq name (codes "]") then header_end at k else acts line act.Wait k
read_result at line _ k = acts line act.Wait k

-- a word of the structure where no word is open
abbrev pub declaration : ℕ → Option Control → Known → Read
declaration line (Some control.Colon) k = wants line (wanted.Title line) k
declaration line (Some control.Var) k = wants line wanted.Shared k
declaration line (Some control.LVar) k = wants line wanted.Shared k
declaration line (Some control.Public) k = wants line (wanted.Offered All) k
declaration line (Some control.WizCall) k = wants line (wanted.Offered Wizards) k
declaration line (Some control.VarStore) k = refuse line BadHeader
declaration line _ k = refuse line UnknownWord

-- a word where no word is open
abbrev pub read_outside : ℕ → TokenKind → Known → Read
read_outside line (token.Word name) k = declaration line (control_of name) k
read_outside line _ k = refuse line UnknownWord

-- a word of the structure in a word: those that stand between words alone are no part of one
abbrev pub control_read : ℕ → Control → Known → Read
control_read line control.Var k = wants line wanted.Own k
control_read line control.VarStore k = wants line (wanted.Stored line) k
control_read line control.Semicolon k = acts line (act.End (length k.locals)) (record k { locals = []; mode = mode.Outside })
control_read line control.If k = acts line (act.Open opening.If) k
control_read line control.Else k = acts line act.Else k
control_read line control.Then k = acts line act.Then k
control_read line control.Try k = acts line (act.Open opening.Try) k
control_read line control.Catch k = acts line act.Catch k
control_read line control.EndCatch k = acts line act.EndCatch k
control_read line control.Begin k = acts line (act.Open opening.Begin) k
control_read line control.For k = acts line (act.Open opening.For) k
control_read line control.ForEach k = acts line (act.Open opening.Each) k
control_read line control.Repeat k = acts line act.Repeat k
control_read line control.Until k = acts line act.Until k
control_read line control.While k = acts line (act.Jump item.While) k
control_read line control.Break k = acts line (act.Jump item.Break) k
control_read line control.Continue k = acts line (act.Jump item.Continue) k
control_read line control.Exit k = acts line (act.Item item.Exit) k
control_read line _ k = refuse line BadHeader

-- an item, where the word has a meaning
abbrev pub word_meant : ℕ → Option Word → Known → Read
word_meant line (Some w) k = acts line (act.Item w) k
word_meant line None k = refuse line UnknownWord

abbrev pub plain_word : ℕ → List ℕ → Option Control → Known → Read
plain_word line name (Some c) k = control_read line c k
plain_word line name None k = word_meant line (usable (item_named name k)) k

-- a word in a word
abbrev pub read_inside : ℕ → TokenKind → Known → Read
read_inside line (token.Word name) k = plain_word line name (control_of name) k
read_inside line (token.Text text) k = acts line (act.Item (item.Literal (literal.Text text))) k
read_inside line (token.Number n) k = acts line (act.Item (item.Literal (literal.Int n))) k
read_inside line (token.Ref d) k = acts line (act.Item (item.Literal (literal.Object d))) k
read_inside line (token.Address name) k = word_meant line (option_map item.Address (word_number name k)) k

abbrev pub read_in : ℕ → Mode → ℕ → TokenKind → Known → Read
read_in number mode.Outside line kind k = read_outside line kind k
read_in number mode.Inside line kind k = read_inside line kind k
read_in number (mode.Naming w) line kind k = read_name number line w kind k
read_in number (mode.Heading at) line kind k = read_argument at line kind k
read_in number (mode.Results at) line kind k = read_result at line kind k

-- what a word asks for, where the next word of the program has this number
unfoldable pub word_read : ℕ → Token → Known → Read
word_read number t k = read_in number k.mode t.line t.kind k

-- nothing is known
abbrev pub nothing_known : Known
nothing_known = record { names = []; variables = 0; locals = []; mode = mode.Outside }

-- the answer of a call that changes what is known, and what it leaves; want of memory says nothing
abbrev pub Reads : {A : Type 0} → Result (Known × A) Refusal → Result A CompileFault → Known → Type 0
Reads step (Ok answer) now = step ≡ Ok (now, answer)
Reads step (Err (Refused refusal)) now = step ≡ Err refusal
Reads step (Err NoMemory) now = Unit {0}
