-- The lists of contents, as they are walked.
use Rattle.std.specs.Prelude.{◌≡◌, true, false, List, [], ◌∷◌}
use Rattle.muck_model.specs.declared.dbref.Dbref.{Dbref}
pub use Rattle.muck_model.specs.Dbrefs.{same, nothing}

-- The chain that begins there is this list: each leads to the one behind it, and the last to nothing.
unfoldable pub IsChain : (Dbref → Dbref) → Dbref → List Dbref → Type 0
IsChain next start [] = same start nothing ≡ true
IsChain next start (d ∷ more) = (start ≡ d) × (same start nothing ≡ false) × IsChain next (next d) more
