-- Paths that texts write.
use Rattle.std.proofs.Common.{◌≡◌, ℕ, List, Option, Some, None, sym, ap, ◌∙◌}
use Rattle.std.specs.Prelude.{Result, Ok, Err}
use Rattle.std.specs.Option.{option_map_or}
use Rattle.muck_prop.specs.declared.path.PropFault.{PropFault}
use Rattle.muck_prop.specs.Paths.{path_fault, segments_of}
use Rattle.mpi.specs.declared.fault.MpiFault.{MpiFault}
use Rattle.mpi.specs.declared.fault.MpiFault.TheVariants.{BadValue}
use Rattle.mpi.specs.Thoughts.{found_or_bad}
use Rattle.spec_mpi.specs.Telling.{path_written_in}

path_is : (text : List ℕ) (path : List (List ℕ)) → path_fault text ≡ None → path ≡ segments_of text → path_written_in text ≡ Some path
unfolding path_written_in
path_is text path fine is = ap (λ (o : Option PropFault). option_map_or (λ (f : PropFault). None) o (Some (segments_of text))) fine ∙ ap (λ (p : List (List ℕ)). Some p) (sym is)

path_none : (text : List ℕ) (f : PropFault) → path_fault text ≡ Some f → path_written_in text ≡ None
unfolding path_written_in
path_none text f bad = ap (λ (o : Option PropFault). option_map_or (λ (f : PropFault). None) o (Some (segments_of text))) bad

pub path_read : (text : List ℕ) (path : List (List ℕ)) → path_fault text ≡ None → path ≡ segments_of text → ◌≡◌ {A = Result (List (List ℕ)) MpiFault} (found_or_bad (path_written_in text)) (Ok path)
path_read text path fine is = ap (λ (o : Option (List (List ℕ))). found_or_bad o) (path_is text path fine is)

pub path_bad : (text : List ℕ) (f : PropFault) → path_fault text ≡ Some f → ◌≡◌ {A = Result (List (List ℕ)) MpiFault} (found_or_bad (path_written_in text)) (Err BadValue)
path_bad text f bad = ap (λ (o : Option (List (List ℕ))). found_or_bad o) (path_none text f bad)

pub ruleset path_steps = (path_read, path_bad)
