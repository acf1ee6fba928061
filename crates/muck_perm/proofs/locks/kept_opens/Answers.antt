use Rattle.std.proofs.Common.{◌≡◌, ℕ, false, List, Option, Some, rules, subst, sym}
use Rattle.std.specs.Option.{option_map_or}
use Rattle.muck_prop.specs.Store.{kept_text}
use Rattle.muck_lock.specs.Answers.{text_opens}
use Rattle.spec_live.specs.Worth.{holdings_of}
use Rattle.muck_perm.proofs.locks.kept_opens.Goals as goal

pub returns-in-Some : goal.returns-in-Some
unfolding holdings_of
returns-in-Some c =
    let P : Option (List ℕ) → Type 0 = λ text. c.text_opens.result ≡ option_map_or (text_opens (holdings_of c.args.db.now) c.args.x) text false in
    let is : kept_text c.args.kept.now ≡ Some c.in-Some.text.now = search rules in
    subst P (sym is) c.text_opens.ensures
