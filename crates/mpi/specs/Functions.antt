-- The functions: one table of their names, how many arguments they take, and how these are evaluated.
use Rattle.std.specs.Prelude.{ℕ, Bool, true, ◌&&◌, nat_le, List, [], ◌∷◌, Option, None, Some, find, bytes_eq, codes}
use Rattle.mpi.specs.declared.functions.Function.{Function}
use Rattle.mpi.specs.declared.functions.Function.TheVariants.{Value, Set, With, Literal, Nothing, If, And, Or, Xor, Not, Equal, Unequal, Greater, Less, AtLeast, AtMost, Add, Subtract, Multiply, Divide, Modulo, Absolute, Sign, Least, Most, Increase, Decrease, Dice, Length, Upper, Lower, Strip, Find, Substitute, Middle, MakeList, Count, Member, Sublist, For, Foreach, While, Parse, Filter, Name, Ref, Loc, Owner, Kind, Flags, Contents, Exits, Same, Holds, Controls, Prop, PropHere, Store, DelProp, PropDir, Tell, Otell}
use Rattle.mpi.specs.declared.functions.How.{How}
use Rattle.mpi.specs.declared.functions.How.TheVariants.{First, Lazy}
use Rattle.mpi.specs.declared.functions.Group.TheVariants as group
use Rattle.mpi.specs.declared.functions.Way.TheVariants as way
use Rattle.mpi.specs.declared.functions.Scope.TheVariants.{Once, Numbers, Items}
use Rattle.mpi.specs.declared.functions.Keep.TheVariants.{Last, Texts}
use Rattle.mpi.specs.declared.functions.Keep.TheVariants as keep
use Rattle.mpi.specs.declared.functions.Row.{Row as Kept}

-- What is so of a function: its name, the least and the most arguments that it takes, and how they are evaluated.
pub record FunctionRow : Type 0 where
  pub name : List ℕ
  pub least : ℕ
  pub most : Option ℕ
  pub how : How

abbrev function_row : List ℕ → ℕ → Option ℕ → How → FunctionRow
function_row name least most how = record { name = name; least = least; most = most; how = how }

-- the table of all functions
abbrev pub row_of_function : Function → FunctionRow
row_of_function Value = function_row (codes "v") 1 (Some 1) (First group.Variable)
row_of_function Set = function_row (codes "set") 2 (Some 2) (First group.Variable)
row_of_function With = function_row (codes "with") 3 (Some 3) (Lazy (way.With Once))
row_of_function Literal = function_row (codes "lit") 0 None (Lazy way.Literal)
row_of_function Nothing = function_row (codes "null") 0 None (First group.Text)
row_of_function If = function_row (codes "if") 2 (Some 3) (Lazy way.If)
row_of_function And = function_row (codes "and") 1 None (Lazy way.All)
row_of_function Or = function_row (codes "or") 1 None (Lazy way.Any)
row_of_function Xor = function_row (codes "xor") 2 (Some 2) (First group.Test)
row_of_function Not = function_row (codes "not") 1 (Some 1) (First group.Test)
row_of_function Equal = function_row (codes "eq") 2 (Some 2) (First group.Test)
row_of_function Unequal = function_row (codes "ne") 2 (Some 2) (First group.Test)
row_of_function Greater = function_row (codes "gt") 2 (Some 2) (First group.Test)
row_of_function Less = function_row (codes "lt") 2 (Some 2) (First group.Test)
row_of_function AtLeast = function_row (codes "ge") 2 (Some 2) (First group.Test)
row_of_function AtMost = function_row (codes "le") 2 (Some 2) (First group.Test)
row_of_function Add = function_row (codes "add") 2 None (First group.Number)
row_of_function Subtract = function_row (codes "subt") 2 (Some 2) (First group.Number)
row_of_function Multiply = function_row (codes "mult") 2 None (First group.Number)
row_of_function Divide = function_row (codes "div") 2 (Some 2) (First group.Number)
row_of_function Modulo = function_row (codes "mod") 2 (Some 2) (First group.Number)
row_of_function Absolute = function_row (codes "abs") 1 (Some 1) (First group.Number)
row_of_function Sign = function_row (codes "sign") 1 (Some 1) (First group.Number)
row_of_function Least = function_row (codes "min") 2 (Some 2) (First group.Number)
row_of_function Most = function_row (codes "max") 2 (Some 2) (First group.Number)
row_of_function Increase = function_row (codes "inc") 1 (Some 1) (First group.Variable)
row_of_function Decrease = function_row (codes "dec") 1 (Some 1) (First group.Variable)
row_of_function Dice = function_row (codes "dice") 1 (Some 1) (First group.Chance)
row_of_function Length = function_row (codes "strlen") 1 (Some 1) (First group.Text)
row_of_function Upper = function_row (codes "toupper") 1 (Some 1) (First group.Text)
row_of_function Lower = function_row (codes "tolower") 1 (Some 1) (First group.Text)
row_of_function Strip = function_row (codes "strip") 1 (Some 1) (First group.Text)
row_of_function Find = function_row (codes "instr") 2 (Some 2) (First group.Text)
row_of_function Substitute = function_row (codes "subst") 3 (Some 3) (First group.Text)
row_of_function Middle = function_row (codes "midstr") 2 (Some 3) (First group.Text)
row_of_function MakeList = function_row (codes "mklist") 1 None (First group.Text)
row_of_function Count = function_row (codes "count") 1 (Some 1) (First group.Text)
row_of_function Member = function_row (codes "lmember") 2 (Some 2) (First group.Text)
row_of_function Sublist = function_row (codes "sublist") 3 (Some 3) (First group.Text)
row_of_function For = function_row (codes "for") 5 (Some 5) (Lazy (way.With Numbers))
row_of_function Foreach = function_row (codes "foreach") 3 (Some 3) (Lazy (way.With (Items Last)))
row_of_function While = function_row (codes "while") 2 (Some 2) (Lazy way.While)
row_of_function Parse = function_row (codes "parse") 3 (Some 3) (Lazy (way.With (Items Texts)))
row_of_function Filter = function_row (codes "filter") 3 (Some 3) (Lazy (way.With (Items keep.Items)))
row_of_function Name = function_row (codes "name") 0 (Some 1) (First group.Ask)
row_of_function Ref = function_row (codes "ref") 0 (Some 1) (First group.Reference)
row_of_function Loc = function_row (codes "loc") 0 (Some 1) (First group.Ask)
row_of_function Owner = function_row (codes "owner") 0 (Some 1) (First group.Ask)
row_of_function Kind = function_row (codes "type") 0 (Some 1) (First group.Ask)
row_of_function Flags = function_row (codes "flags") 0 (Some 1) (First group.Ask)
row_of_function Contents = function_row (codes "contents") 0 (Some 1) (First group.Ask)
row_of_function Exits = function_row (codes "exits") 0 (Some 1) (First group.Ask)
row_of_function Same = function_row (codes "dbeq") 0 (Some 2) (First group.Same)
row_of_function Holds = function_row (codes "holds") 0 (Some 2) (First group.Ask)
row_of_function Controls = function_row (codes "controls") 0 (Some 1) (First group.Ask)
row_of_function Prop = function_row (codes "prop") 1 (Some 2) (First group.Ask)
row_of_function PropHere = function_row (codes "prop!") 1 (Some 2) (First group.Ask)
row_of_function Store = function_row (codes "store") 2 (Some 3) (First group.Deed)
row_of_function DelProp = function_row (codes "delprop") 1 (Some 2) (First group.Deed)
row_of_function PropDir = function_row (codes "propdir") 1 (Some 2) (First group.Ask)
row_of_function Tell = function_row (codes "tell") 1 (Some 2) (First group.Deed)
row_of_function Otell = function_row (codes "otell") 1 (Some 2) (First group.Deed)

-- all functions
unfoldable pub functions : List Function
functions = Value ∷ Set ∷ With ∷ Literal ∷ Nothing ∷ If ∷ And ∷ Or ∷ Xor ∷ Not ∷ Equal ∷ Unequal ∷ Greater ∷ Less ∷ AtLeast ∷ AtMost ∷ Add ∷ Subtract ∷ Multiply ∷ Divide ∷ Modulo ∷ Absolute ∷ Sign ∷ Least ∷ Most ∷ Increase ∷ Decrease ∷ Dice ∷ Length ∷ Upper ∷ Lower ∷ Strip ∷ Find ∷ Substitute ∷ Middle ∷ MakeList ∷ Count ∷ Member ∷ Sublist ∷ For ∷ Foreach ∷ While ∷ Parse ∷ Filter ∷ Name ∷ Ref ∷ Loc ∷ Owner ∷ Kind ∷ Flags ∷ Contents ∷ Exits ∷ Same ∷ Holds ∷ Controls ∷ Prop ∷ PropHere ∷ Store ∷ DelProp ∷ PropDir ∷ Tell ∷ Otell ∷ []

-- the function of a name, which is written exactly so
abbrev pub function_named : List ℕ → Option Function
function_named word = find (λ f. bytes_eq (row_of_function f).name word) functions

abbrev pub is_few : ℕ → Option ℕ → Bool
is_few n None = true
is_few n (Some most) = nat_le n most

-- it takes so many arguments
abbrev pub takes_so_many : Function → ℕ → Bool
takes_so_many f n = nat_le (row_of_function f).least n && is_few n (row_of_function f).most

-- a row as the code has it
abbrev pub shown_row : Kept → FunctionRow
shown_row r = function_row r.name.now r.least r.most r.how
