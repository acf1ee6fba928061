-- What a host in memory answers and changes.
use Rattle.std.specs.Prelude.{ℕ, ◌+◌, ◌%◌, ◌==◌, Bool, false, ◌&&◌, if◌then◌else◌, List, [], ◌∷◌, ◌++◌, Option, Some, None, option_map, Result, Ok, pos, negsuc, slice_get, bytes_eq, codes, int_lt, nat_abs}
use Rattle.std.specs.List.{fold}
use Rattle.std.specs.Option.{unwrap_or, option_and_then}
use Rattle.std.specs.Ordering.{int_eq}
use Rattle.muck_model.specs.Numbers.{dbref_written, dbref_numbered}
use Rattle.muck_model.specs.declared.dbref.Dbref.{Dbref}
use Rattle.mpi.specs.declared.fault.MpiFault.{MpiFault}
use Rattle.mpi.specs.declared.fault.MpiFault.TheVariants.{Denied}
use Rattle.mpi.specs.declared.host.Ask.{Ask}
use Rattle.mpi.specs.declared.host.Ask.TheVariants as ask
use Rattle.mpi.specs.declared.host.Deed.{Deed}
use Rattle.mpi.specs.declared.host.Deed.TheVariants as deed
use Rattle.mpi.specs.declared.memory.MemHost.{MemHost}
use Rattle.mpi.specs.declared.memory.MemProp.{MemProp}
use Rattle.mpi.specs.Hosting.{Powers}

-- the name of an object that is there
abbrev pub name_in : MemHost → Dbref → Option (List ℕ)
name_in h d = if int_lt d.0 (pos 0) then None else slice_get h.names (nat_abs d.0)

abbrev there_in : MemHost → Dbref → Option Dbref
there_in h d = option_map (λ name. d) (name_in h d)

-- `me`, `here` and `home`, or the number of an object that is there
unfoldable pub named_in : List ℕ → MemHost → Option Dbref
named_in text h =
    if bytes_eq text (codes "me") then Some (dbref_numbered (pos 1))
    else if bytes_eq text (codes "here") then Some (dbref_numbered (pos 0))
    else if bytes_eq text (codes "home") then Some (dbref_numbered (negsuc 2))
    else option_and_then (there_in h) (dbref_written text)

abbrev is_prop : List ℕ → Dbref → MemProp → Bool
is_prop path d p = int_eq p.object.0 d.0 && bytes_eq p.path path

abbrev pub found_prop : List ℕ → Dbref → Option (List ℕ) → MemProp → Option (List ℕ)
found_prop path d found p = if is_prop path d p then Some p.text else found

-- the property that was stored last
unfoldable pub prop_in : List ℕ → Dbref → MemHost → Option (List ℕ)
prop_in path d h = fold (found_prop path d) None h.props

abbrev pub tells_in : Ask → MemHost → Result (List ℕ) MpiFault
tells_in (ask.Name d) h = Ok (unwrap_or (name_in h d) [])
tells_in (ask.Prop path d) h = Ok (unwrap_or (prop_in path d h) [])
tells_in (ask.PropHere path d) h = Ok (unwrap_or (prop_in path d h) [])
tells_in _ h = Ok []

-- a path that begins with `~` is denied
abbrev pub is_barred : List ℕ → Bool
is_barred [] = false
is_barred (b ∷ more) = b == 126

abbrev pub stored_in : Dbref → List ℕ → List ℕ → MemHost → Option MpiFault × MemHost
stored_in d path text h =
    if is_barred path then (Some (Denied 4), h)
    else (None, record h { props = h.props ++ record { object = d; path = path; text = text } ∷ [] })

abbrev pub told_in : List ℕ → MemHost → Option MpiFault × MemHost
told_in text h = (None, record h { told = h.told ++ text ∷ [] })

abbrev pub does_in : Deed → MemHost → Option MpiFault × MemHost
does_in (deed.Store text path d) h = stored_in d path text h
does_in (deed.DelProp path d) h = stored_in d path [] h
does_in (deed.Tell text d) h = told_in text h
does_in (deed.Otell text d) h = told_in text h

-- the random words are the even numbers
abbrev pub draws_in : MemHost → ℕ × MemHost
draws_in h = ((h.words + 2) % 4294967296, record h { words = (h.words + 2) % 4294967296 })

abbrev pub memory : Powers MemHost
memory = record {
  player = λ h. dbref_numbered (pos 1);
  place = λ h. dbref_numbered (pos 0);
  most = λ h. h.most;
  finds = named_in;
  tells = tells_in;
  does = does_in;
  draws = draws_in;
}
