use Rattle.std.proofs.Common.{rules, ◌≡◌, ◌&&◌, Some, None, map, sym}
use Rattle.std.specs.List.{position}
use Rattle.std.specs.Option.{option_copied}
use Rattle.std.specs.Str.{bytes_eq}
use Rattle.std.specs.Char.{to_ascii_lowercase}
use Rattle.spec_events.specs.Slices.{is_offered}
use Rattle.muck_turns.proofs.Deeds.{named_word, last_place}
use Rattle.muck_turns.proofs.state.calls.called_word.Goals as goal

pub returns-in_default : goal.returns-in_default
returns-in_default c =
    let words : c.as_slice-words.result.now ≡ c.args.code.now.words = search rules in
    let named : option_copied c.args.name ≡ None = search rules in
    rw named (last_place c.args.code.now c.args.actor.now c.checked_sub.result (rw (sym words) c.checked_sub.ensures))

pub returns : goal.returns
returns c =
    let lower : c.as_slice-2.result.now ≡ map to_ascii_lowercase c.in-Some.name.now = search rules in
    let words : c.as_slice-words.result.now ≡ c.args.code.now.words = search rules in
    let named : option_copied c.args.name ≡ Some c.in-Some.name.now = search rules in
    let found : c.word_named.result ≡ position (λ w. bytes_eq w.name (map to_ascii_lowercase c.in-Some.name.now) && is_offered c.args.actor.now w.offer) c.args.code.now.words =
    rw (sym lower, sym words) c.word_named.ensures in
    rw (named, found) (named_word c.args.code.now c.args.actor.now c.in-Some.name.now)
