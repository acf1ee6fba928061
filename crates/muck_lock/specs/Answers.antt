-- For whom the text of a lock opens.
use Rattle.std.specs.Prelude.{ℕ, Bool, false, List, Option, None, Result, Ok, Err}
use Rattle.muck_model.specs.declared.dbref.Dbref.{Dbref}
use Rattle.muck_model.specs.declared.lock.Lock.{Lock}
use Rattle.muck_lock.specs.Naming.{Naming, naming}
use Rattle.muck_lock.specs.Grammar.{lock_of}
use Rattle.muck_lock.specs.Opens.{Holdings, opens_for}

-- a text in which nothing is named: numbers of objects and properties alone are keys
abbrev pub no_names : Naming
no_names = naming (λ name. None) (λ d. false)

abbrev pub lock_opens : Holdings → Dbref → Result Lock ℕ → Bool
lock_opens w x (Ok lock) = opens_for w lock x
lock_opens w x (Err at) = false

-- the text of a lock opens for x; what is the text of none opens for nobody
unfoldable pub text_opens : Holdings → Dbref → List ℕ → Bool
text_opens w x text = lock_opens w x (lock_of no_names text)
