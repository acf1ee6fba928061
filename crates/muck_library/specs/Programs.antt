-- What is built of a program of the world: its source, the definitions that objects lend, and the tree of both.
use Rattle.std.specs.Prelude.{◌≡◌, ℕ, List, [], ◌∷◌, map, codes, Option, Result, Ok, Err}
use Rattle.std.specs.Option.{option_map, option_map_or}
use Rattle.muck_model.specs.declared.dbref.Dbref.{Dbref}
use Rattle.muck_prop.specs.declared.props.Listed.{Listed}
use Rattle.muck_prop.specs.Paths.{path_text}
use Rattle.muck_prop.specs.Store.{listed_below}
use Rattle.spec_live.specs.declared.object.Object.{Object}
use Rattle.spec_live.specs.Objects.{Entry, object_at}
use Rattle.spec_live.specs.Worth.{value_text}
use Rattle.muf_model.specs.declared.code.Code.{Code}
use Rattle.muf_model.specs.Tree.{Tree}
use Rattle.muf_model.specs.inner.Stands.{TreeStands}
use Rattle.muf_model.specs.inner.Decode as decode
use Rattle.muf_token.specs.declared.token.Token.{Token}
use Rattle.muf_token.specs.declared.fault.Refusal.{Refusal as ReadRefusal}
use Rattle.muf_token.specs.declared.includes.Definition.{Definition}
use Rattle.muf_token.specs.Source.{words}
use Rattle.muf_compile.specs.declared.fault.Refusal.{Refusal as CompileRefusal}
use Rattle.muf_compile.specs.inner.Grammar.{IsProgram}
use Rattle.muf_compile.specs.Growth.{tree_of}
use Rattle.muck_library.specs.declared.flaw.Flaw.{Flaw}
use Rattle.muck_library.specs.declared.flaw.BuildFault.{BuildFault}
use Rattle.muck_library.specs.declared.flaw.BuildFault.TheVariants.{Refused, NoMemory}
use Rattle.muck_library.specs.Flaws.{flaw_of_reading, flaw_of_compiling}

-- The definitions that an object lends are its properties below `_defs`.

abbrev pub defs_dir : List (List ℕ)
defs_dir = codes "_defs" ∷ []

-- its name is the rest of the path, with the segments joined by slashes; it stands for the value as a text
abbrev pub definition_of : Listed → Definition
definition_of p = record { name = path_text p.rest; text = value_text p.value }

abbrev pub defs_of : Object → List Definition
defs_of o = map definition_of (listed_below defs_dir o.props)

-- the definitions that `$include` takes of an object, in the order of their paths; none where it isn't there or is
-- garbage
unfoldable pub lent_in : List Entry → Dbref → Option (List Definition)
lent_in es d = option_map defs_of (object_at d es)

-- the source of an object; that of what isn't there has no line
unfoldable pub source_in : List Entry → Dbref → List (List ℕ)
source_in es d = option_map_or (λ o. o.lines) (object_at d es) []

-- The tree.

abbrev pub compiled_tree : Result Tree CompileRefusal → Result Tree Flaw
compiled_tree (Ok tree) = Ok tree
compiled_tree (Err r) = Err (flaw_of_compiling r)

abbrev pub tree_of_words : Result (List Token) ReadRefusal → Result Tree Flaw
tree_of_words (Ok tokens) = compiled_tree (tree_of tokens)
tree_of_words (Err r) = Err (flaw_of_reading r)

-- the tree of a program, or the first flaw of its source
unfoldable pub built_tree : List Entry → Dbref → Result Tree Flaw
built_tree es d = tree_of_words (words (lent_in es) (source_in es d))

-- Where the tree is defined, code that stands for it, so that it is the tree that is read off the code; else the first
-- flaw. Want of memory says nothing.
abbrev pub IsBuilt : Result Tree Flaw → Result Code BuildFault → Type 0
IsBuilt tree (Ok code) = (tree ≡ Ok (decode.tree_of code)) × TreeStands code (decode.tree_of code)
IsBuilt tree (Err (Refused flaw)) = tree ≡ Err flaw
IsBuilt tree (Err NoMemory) = Unit {0}

-- the tree of the code is written in the words of the source by the rules of the grammar
abbrev pub IsWritten : List Entry → Dbref → Code → Type 0
IsWritten es d code = (tokens : List Token) × (words (lent_in es) (source_in es d) ≡ Ok tokens) × IsProgram tokens (decode.tree_of code)
