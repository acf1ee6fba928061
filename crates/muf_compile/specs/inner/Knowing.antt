-- What the program knows at a place of a source.
use Rattle.muf_compile.specs.declared.names.Known.{Known as Knowing}
use Rattle.muf_compile.specs.Reading.{Known}

-- the names and what may come next
abbrev pub known_of : Knowing → Known
known_of k = record { names = k.names.entries; variables = k.variables; locals = k.locals.entries; mode = k.mode }
