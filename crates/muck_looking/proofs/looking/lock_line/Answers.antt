use Rattle.std.proofs.Common.{◌≡◌, ◌++◌, List, ℕ, ◌∙◌, subst}
use Rattle.std.specs.Prelude.{IfOk, codes}
use Rattle.muck_looking.specs.Looks.{line_shortened}
use Rattle.spec_commands.specs.Replies.{lock_line}
use Rattle.muck_looking.proofs.looking.lock_line.Goals as goal

pub returns : goal.returns
unfolding lock_line
returns c =
    let P : List ℕ → Type 0 = λ l. IfOk c.headed.result (λ line. line ≡ line_shortened (codes "Lock: " ++ l)) in
    subst P (c.as_slice.ensures.bytes ∙ c.in_ok-lock.ensures) c.headed.ensures
