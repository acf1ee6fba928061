use Rattle.std.proofs.Common.{ap, ◌∙◌}
use Rattle.std.specs.Prelude.{map}
use Rattle.std.specs.Char.{to_ascii_lowercase}
use Rattle.std.specs.Str.{bytes_eq}
use Rattle.muck_laws.proofs.Texts.{tests_equal}
use Rattle.muf_model.proofs.prims.Primitive.is_named.Goals as goal

pub returns : goal.returns
returns c =
    tests_equal c.eq_ignore_ascii_case.result (map to_ascii_lowercase c.name.result.now) (map to_ascii_lowercase c.args.word.now) c.eq_ignore_ascii_case.ensures.test
    ∙ ap (λ n. bytes_eq (map to_ascii_lowercase n) (map to_ascii_lowercase c.args.word.now)) c.name.ensures
