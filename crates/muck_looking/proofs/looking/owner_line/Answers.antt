use Rattle.std.proofs.Common.{◌≡◌, ◌++◌, List, ℕ, ◌∙◌, ap, subst}
use Rattle.std.specs.Prelude.{IfOk, codes}
use Rattle.muck_looking.specs.Looks.{line_shortened, entry_name}
use Rattle.spec_commands.specs.Replies.{owner_line}
use Rattle.muck_looking.proofs.looking.owner_line.Goals as goal

pub returns : goal.returns
unfolding owner_line
returns c =
    let P : List ℕ → Type 0 = λ l. IfOk c.headed.result (λ line. line ≡ line_shortened (codes "Owner: " ++ l)) in
    subst P (c.name_of.ensures.name ∙ ap (entry_name c.args.db.now) c.owner_at-owner.ensures) c.headed.ensures
