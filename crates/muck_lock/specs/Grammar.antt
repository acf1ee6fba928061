-- The texts of locks: what they are read as, and where reading fails.
use Rattle.std.specs.Prelude.{ℕ, ◌+◌, ◌-◌, zero, suc, Bool, ◌||◌, ◌==◌, if◌then◌else◌, List, [], ◌∷◌, length, take, drop, Option, Some, None, Result, Ok, Err}
use Rattle.std.specs.List.{before_first, position, position_or_len}
use Rattle.muck_model.specs.Numbers.{dbref_written}
use Rattle.muck_model.specs.declared.dbref.Dbref.{Dbref}
use Rattle.muck_model.specs.declared.lock.Lock.{Lock}
use Rattle.muck_model.specs.declared.lock.Lock.TheVariants.{Free, Object, Prop, Not, Both, Either}
use Rattle.muck_lock.specs.Naming.{Naming}
use Rattle.muck_lock.specs.Paths.{is_path}
use Rattle.muck_lock.specs.declared.part.Part.{Part}
use Rattle.muck_lock.specs.declared.part.Part.TheVariants.{OneOf, AllOf, Term}

-- `&`, `|` and `)` end a key
abbrev pub ends_key : ℕ → Bool
ends_key b = b == 38 || b == 124 || b == 41

abbrev pub is_colon : ℕ → Bool
is_colon b = b == 58

-- an object is a key where it is no program
abbrev pub object_key : Naming → Option Dbref → Option Lock
object_key names None = None
object_key names (Some d) = if names.is_program d then None else Some (Object d)

abbrev pub property_key : List ℕ → List ℕ → Option Lock
property_key path value = if is_path path then Some (Prop path value) else None

-- behind a `:` stands a value; where there is none, the key is a name
abbrev pub named_key : Naming → List ℕ → Option ℕ → Option Lock
named_key names key None = object_key names (names.find key)
named_key names key (Some colon) = property_key (take colon key) (drop (colon + 1) key)

-- the key that is written so: a number of an object, a player, a property with its value, or a name
abbrev pub lock_key_of : Naming → List ℕ → Option Lock
lock_key_of names [] = None
lock_key_of names (b ∷ more) =
    if b == 35 then object_key names (dbref_written (b ∷ more))
    else if b == 42 then object_key names (names.find (b ∷ more))
    else named_key names (b ∷ more) (position is_colon (b ∷ more))

-- What was read, with the bytes behind it; or the bytes from the place on where reading fails.
abbrev pub LockReading : Type 0
LockReading = Result (Lock × List ℕ) (List ℕ)

-- a key, which is understood as a whole or fails where it begins
abbrev pub key_or_fault : Option Lock → List ℕ → List ℕ → LockReading
key_or_fault None text rest = Err text
key_or_fault (Some key) text rest = Ok (key, rest)

abbrev pub key_in : Naming → List ℕ → LockReading
key_in names text =
    key_or_fault (lock_key_of names (before_first ends_key text)) text (drop (position_or_len ends_key text) text)

abbrev pub negated : LockReading → LockReading
negated (Err rest) = Err rest
negated (Ok read) = Ok (Not read.0, read.1)

-- a `)` stands behind it
abbrev pub closed_by : Lock → List ℕ → LockReading
closed_by lock [] = Err []
closed_by lock (b ∷ more) = if b == 41 then Ok (lock, more) else Err (b ∷ more)

abbrev pub bracket_closed : LockReading → LockReading
bracket_closed (Err rest) = Err rest
bracket_closed (Ok read) = closed_by read.0 read.1

abbrev pub with_first_lock : (Lock → Lock → Lock) → Lock → LockReading → LockReading
with_first_lock join first (Err rest) = Err rest
with_first_lock join first (Ok read) = Ok (join first read.0, read.1)

-- where the sign stands behind the first one, what is read behind the sign is joined to it
abbrev pub sign_followed : ℕ → (Lock → Lock → Lock) → (List ℕ → LockReading) → Lock → List ℕ → LockReading
sign_followed sign join more first [] = Ok (first, [])
sign_followed sign join more first (b ∷ rest) = if b == sign then with_first_lock join first (more rest) else Ok (first, b ∷ rest)

abbrev pub locks_joined : ℕ → (Lock → Lock → Lock) → (List ℕ → LockReading) → LockReading → LockReading
locks_joined sign join more (Err rest) = Err rest
locks_joined sign join more (Ok read) = sign_followed sign join more read.0 read.1

-- The grammar, over a reading of the parts inside:
-- a term is `!` and a term, `(`, parts with `|` between and `)`, or a key
abbrev pub term_in : Naming → (Part → List ℕ → LockReading) → List ℕ → LockReading
term_in names inside [] = Err []
term_in names inside (b ∷ more) =
    if b == 33 then negated (inside Term more)
    else if b == 40 then bracket_closed (inside OneOf more)
    else key_in names (b ∷ more)

-- terms with `&` between
abbrev pub all_of_in : Naming → (Part → List ℕ → LockReading) → List ℕ → LockReading
all_of_in names inside text = locks_joined 38 Both (inside AllOf) (term_in names inside text)

-- those with `|` between
abbrev pub one_of_in : Naming → (Part → List ℕ → LockReading) → List ℕ → LockReading
one_of_in names inside text = locks_joined 124 Either (inside OneOf) (all_of_in names inside text)

abbrev pub part_in : Naming → (Part → List ℕ → LockReading) → Part → List ℕ → LockReading
part_in names inside Term text = term_in names inside text
part_in names inside AllOf text = all_of_in names inside text
part_in names inside OneOf text = one_of_in names inside text

-- the same, nested less deeply than the number says
unfoldable pub part_of : Naming → ℕ → Part → List ℕ → LockReading
part_of names zero part text = Err text
part_of names (suc depth) part text = part_in names (part_of names depth) part text

-- a part, nested as deeply as its text allows
abbrev pub part_reading : Naming → Part → List ℕ → LockReading
part_reading names part text = part_of names (suc (length text)) part text

-- nothing may be left behind it
abbrev pub whole_of : ℕ → Lock → List ℕ → Result Lock ℕ
whole_of size lock [] = Ok lock
whole_of size lock (b ∷ rest) = Err (size - length (b ∷ rest))

abbrev pub whole : ℕ → LockReading → Result Lock ℕ
whole size (Err rest) = Err (size - length rest)
whole size (Ok read) = whole_of size read.0 read.1

-- The lock that a text is read as, or the place where reading fails first; the empty text is the free lock.
abbrev pub lock_of : Naming → List ℕ → Result Lock ℕ
lock_of names [] = Ok Free
lock_of names (b ∷ more) = whole (length (b ∷ more)) (part_reading names OneOf (b ∷ more))
