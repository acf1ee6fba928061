-- What stays when the editors of a program are closed: all but the editors.
use Rattle.std.proofs.Common.{◌≡◌, refl, None}
use Rattle.std.specs.Prelude.{map}
use Rattle.muck_model.specs.declared.dbref.Dbref.{Dbref}
use Rattle.spec_live.specs.Connections.{Connection, editor_set, edits}
use Rattle.spec_live.specs.Boards.{Board, editors_closed, with_connections}
use Rattle.spec_live.proofs.Lives.{viewed_where}

-- what doesn't speak of editors is as before on each connection, in order
pub editors_closed_kept : {X : Type 0} (f : Connection → X) → ((c : Connection) → f (editor_set None c) ≡ f c) → (program : Dbref) (b : Board) → map f (editors_closed program b).connections ≡ map f b.connections
unfolding editors_closed
editors_closed_kept f keeps program b = viewed_where f (edits program) (editor_set None) keeps b.connections

-- no connection comes or goes, or changes but in its editor
pub editors_closed_same : (program : Dbref) (b : Board) → map (editor_set None) (editors_closed program b).connections ≡ map (editor_set None) b.connections
editors_closed_same program b = editors_closed_kept (editor_set None) (λ c. refl) program b

-- and nothing else of the board changes
pub editors_closed_rest : (program : Dbref) (b : Board) → with_connections b.connections (editors_closed program b) ≡ b
unfolding editors_closed
editors_closed_rest program b = refl
