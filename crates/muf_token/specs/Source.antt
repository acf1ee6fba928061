-- The words of a source.
use Rattle.std.specs.Prelude.{ℕ, Bool, true, false, not, if◌then◌else◌, List, [], ◌∷◌, length, Option, Some, None, is_some, Result, Ok, zero, suc}
use Rattle.std.specs.Str.{bytes_eq}
use Rattle.std.specs.Map.{lookup, remove_entry}
use Rattle.indexmap.specs.IndexMap.{insert_entry}
use Rattle.muck_model.specs.declared.dbref.Dbref.{Dbref}
use Rattle.muf_token.specs.declared.fault.FaultKind.TheVariants.{BadDirective, BadNumber, UnknownInclude}
use Rattle.muf_token.specs.declared.fault.Refusal.{Refusal}
use Rattle.muf_token.specs.declared.token.Token.{Token}
use Rattle.muf_token.specs.declared.token.TokenKind.{TokenKind}
use Rattle.muf_token.specs.declared.token.TokenKind.TheVariants.{Ref}
use Rattle.muf_token.specs.declared.piece.Piece.{Piece}
use Rattle.muf_token.specs.declared.piece.Piece.TheVariants.{Word}
use Rattle.muf_token.specs.declared.directive.Directive.{Directive}
use Rattle.muf_token.specs.declared.directive.Directive.TheVariants.{Def, Define, Undef, Ifdef, Ifndef, Else, Endif, Include}
use Rattle.muf_token.specs.declared.branch.Branch.{Branch}
use Rattle.muf_token.specs.declared.includes.Definition.{Definition}
use Rattle.muf_token.specs.declared.output.Output.{Output}
use Rattle.muf_token.specs.Pieces.{source_joined, lowered, source_pieces, Front, ended, broken, found, piece_ahead}
use Rattle.muf_token.specs.Numbers.{token_kind}
use Rattle.muf_token.specs.Output.{refuse, and_then}
use Rattle.muf_token.specs.Expansion.{Definitions, is_directive, expanded}
use Rattle.muf_token.specs.Branches.{is_taking, outermost, other_part, without_innermost}
use Rattle.muf_token.specs.Directives.{directive_of, Spot, Name, name_behind, rest_of_line, end_of_line, body_at}

-- how many definitions may be open at once
unfoldable pub depth_most : ℕ
depth_most = 64

-- what is known at a place of a source: the definitions, the conditionals that are open, and the words so far
pub record SourceState : Type 0 where
  pub definitions : Definitions
  pub branches : List Branch
  pub out : Output

-- what is known behind a directive, and where that is
abbrev pub Step : Type 0
Step = Result (SourceState × Spot) Refusal

-- the definition of a name, in place of one that it had
abbrev pub with_definition : List ℕ → List Piece → SourceState → SourceState
with_definition name body s = record s { definitions = insert_entry bytes_eq s.definitions name body }

-- `$def name text`, up to the end of the line
abbrev pub def_at : ℕ → SourceState → Spot → Step
def_at line s spot = and_then (name_behind line spot) (λ n. Ok (with_definition n.name (source_pieces (rest_of_line n.behind.text)) s, end_of_line n.behind))

-- `$define name words $enddef`
abbrev pub define_at : ℕ → SourceState → Spot → Step
define_at line s spot = and_then (name_behind line spot) (λ n. and_then (body_at line n.behind) (λ body. Ok (with_definition n.name body.0 s, body.1)))

-- `$undef name`
abbrev pub undef_at : ℕ → SourceState → Spot → Step
undef_at line s spot = and_then (name_behind line spot) (λ n. Ok (record s { definitions = remove_entry (bytes_eq n.name) s.definitions }, n.behind))

abbrev pub is_defined : List ℕ → SourceState → Bool
is_defined name s = is_some (lookup (bytes_eq name) s.definitions)

abbrev pub with_branch : Branch → SourceState → SourceState
with_branch branch s = record s { branches = branch ∷ s.branches }

-- `$ifdef name`, whose first part is read where the name is defined, and, where it isn't `wanted`, `$ifndef name`
abbrev pub conditional_at : Bool → ℕ → SourceState → Spot → Step
conditional_at wanted line s spot = and_then (name_behind line spot) (λ n.
    let taken = (if wanted then is_defined n.name s else not (is_defined n.name s)) in
    Ok (with_branch (record { line = line; taken = taken; other = Some (not taken) }) s, n.behind))

-- `$else`
abbrev pub else_at : ℕ → SourceState → Result SourceState Refusal
else_at line s = and_then (other_part line s.branches) (λ branches. Ok (record s { branches = branches }))

-- `$endif`
abbrev pub endif_at : ℕ → SourceState → Result SourceState Refusal
endif_at line s = and_then (without_innermost line s.branches) (λ branches. Ok (record s { branches = branches }))

-- the object that `$include` names
abbrev pub included_object : ℕ → Name → Option TokenKind → Result Dbref Refusal
included_object line n None = refuse n.line BadNumber
included_object line n (Some (Ref d)) = Ok d
included_object line n (Some _) = refuse line BadDirective

-- these definitions in turn, each in place of one of the same name
abbrev pub with_all : List Definition → Definitions → Definitions
with_all [] definitions = definitions
with_all (d ∷ rest) definitions = with_all rest (insert_entry bytes_eq definitions (lowered d.name) (source_pieces d.text))

abbrev pub included : ℕ → SourceState → Option (List Definition) → Result SourceState Refusal
included line s None = refuse line UnknownInclude
included line s (Some list) = Ok (record s { definitions = with_all list s.definitions })

-- `$include #N`
abbrev pub include_at : (Dbref → Option (List Definition)) → ℕ → SourceState → Spot → Step
include_at lent line s spot = and_then (name_behind line spot) (λ n. and_then (included_object line n (token_kind n.name)) (λ d. and_then (included line s (lent d)) (λ after. Ok (after, n.behind))))

-- a directive, where words are read
abbrev pub directed : (Dbref → Option (List Definition)) → ℕ → Option Directive → SourceState → Spot → Step
directed lent line None s spot = refuse line BadDirective
directed lent line (Some Def) s spot = def_at line s spot
directed lent line (Some Define) s spot = define_at line s spot
directed lent line (Some Undef) s spot = undef_at line s spot
directed lent line (Some Ifdef) s spot = conditional_at true line s spot
directed lent line (Some Ifndef) s spot = conditional_at false line s spot
directed lent line (Some Else) s spot = and_then (else_at line s) (λ after. Ok (after, spot))
directed lent line (Some Endif) s spot = and_then (endif_at line s) (λ after. Ok (after, spot))
directed lent line (Some Include) s spot = include_at lent line s spot

-- a word where words aren't read: conditionals alone count, and neither of their parts is read
abbrev pub word_passed : ℕ → Option Directive → SourceState → Result SourceState Refusal
word_passed line (Some Ifdef) s = Ok (with_branch (record { line = line; taken = false; other = Some false }) s)
word_passed line (Some Ifndef) s = Ok (with_branch (record { line = line; taken = false; other = Some false }) s)
word_passed line (Some Else) s = else_at line s
word_passed line (Some Endif) s = endif_at line s
word_passed line _ s = Ok s

-- what a piece stands for, where words are read
abbrev pub put_out : ℕ → Piece → SourceState → Result SourceState Refusal
put_out line piece s = and_then (expanded depth_most s.definitions line piece s.out) (λ out. Ok (record s { out = out }))

abbrev pub piece_taken : (Dbref → Option (List Definition)) → ℕ → Piece → SourceState → Spot → Step
piece_taken lent line (Word word) s spot =
    if is_directive word then directed lent line (directive_of word) s spot
    else and_then (put_out line (Word word) s) (λ after. Ok (after, spot))
piece_taken lent line piece s spot = and_then (put_out line piece s) (λ after. Ok (after, spot))

abbrev pub skipped : ℕ → Piece → SourceState → Result SourceState Refusal
skipped line (Word word) s = word_passed line (directive_of word) s
skipped line _ s = Ok s

-- one piece of the source, with what it brings
unfoldable pub piece_stepped : (Dbref → Option (List Definition)) → ℕ → Piece → SourceState → Spot → Step
piece_stepped lent line piece s spot =
    if is_taking s.branches then piece_taken lent line piece s spot
    else and_then (skipped line piece s) (λ after. Ok (after, spot))

-- at the end no conditional may be open
abbrev pub words_unless : List Token → Option ℕ → Result (List Token) Refusal
words_unless words None = Ok words
words_unless words (Some line) = refuse line BadDirective

abbrev pub at_front : (Dbref → Option (List Definition)) → (SourceState → Spot → Result (List Token) Refusal) → SourceState → Front → Result (List Token) Refusal
at_front lent rest s ended = words_unless s.out.words (outermost s.branches)
at_front lent rest s (broken line kind) = refuse line kind
at_front lent rest s (found line piece there text) = and_then (piece_stepped lent line piece s (record { line = there; text = text })) (λ p. rest p.0 p.1)

-- the words from a place on, in so many pieces at most
abbrev pub words_within : (Dbref → Option (List Definition)) → ℕ → SourceState → Spot → Result (List Token) Refusal
words_within lent zero s spot = Ok []
words_within lent (suc most) s spot = at_front lent (words_within lent most) s (piece_ahead None spot.line spot.text)

-- the words from a place on. Each piece takes a byte at least, so that as many pieces as there are bytes are all
unfoldable pub words_from : (Dbref → Option (List Definition)) → SourceState → Spot → Result (List Token) Refusal
words_from lent s spot = words_within lent (suc (length spot.text)) s spot

abbrev pub nothing_brought : SourceState
nothing_brought = record { definitions = []; branches = []; out = record { words = []; uses = 0 } }

-- the words of a source with their lines, or the first refusal, where objects lend these definitions
unfoldable pub words : (Dbref → Option (List Definition)) → List (List ℕ) → Result (List Token) Refusal
words lent lines = words_from lent nothing_brought (record { line = 1; text = source_joined lines })
