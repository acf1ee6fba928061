-- A key is read whole, or is a fault where it begins.
use Rattle.std.proofs.Common.{◌≡◌, Some, None, get_or, take, drop, sym, ◌∙◌, ap, arith}
use Rattle.std.specs.List.{before_first, position_or_len}
use Rattle.std.proofs.lemmas.Bool.{ne_eqb}
use Rattle.std.proofs.lemmas.Option.{slice_get-get_or}
use Rattle.muck_lock.specs.Naming.{Naming, naming}
use Rattle.muck_lock.specs.Grammar.{ends_key, lock_key_of}
use Rattle.muck_lock.specs.inner.Waiting.{outcome_at, outcome_behind}
use Rattle.muck_lock.proofs.Places.{text_fault-take, text_fault-drop}
use Rattle.muck_lock.proofs.Passing.{step_no_key, step_key, goes_on-from}
use Rattle.muck_lock.proofs.reader.read_behind_key.Goals as goal

pub read_key-requires : goal.read_key-requires
read_key-requires g c =
    rw (c.split_at-2.ensures.front, c.split_at.ensures.back) (text_fault-take c.key_end-size.result (drop c.args.at c.args.text.now) (text_fault-drop c.args.at c.args.text.now c.requires.text))

pub returns-in-None : goal.returns-in-None
returns-in-None g c =
    let names : Naming = naming (g.F.Finder.found c.args.finder.now) (g.F.Finder.programs c.args.finder.now) in
    let size : c.key_end-size.result ≡ position_or_len ends_key (drop c.args.at c.args.text.now) = c.key_end-size.ensures.place ∙ ap (position_or_len ends_key) c.split_at.ensures.back in
    let none : lock_key_of names (before_first ends_key (drop c.args.at c.args.text.now)) ≡ None =
    ap (λ n. lock_key_of names (take n (drop c.args.at c.args.text.now))) (sym size)
    ∙ ap (λ l. lock_key_of names (take c.key_end-size.result l)) (sym c.split_at.ensures.back)
    ∙ ap (lock_key_of names) (sym c.split_at-2.ensures.front) ∙ sym c.in_ok-read_key.ensures ∙ c.in-None.is in
    step_no_key names c.args.text.now c.args.waiting.now.items c.args.at (get_or c.args.text.now c.args.at 0) (slice_get-get_or c.args.text.now c.args.at 0 c.requires.inside)
    (ne_eqb (get_or c.args.text.now c.args.at 0) 33 c.requires.key.0) (ne_eqb (get_or c.args.text.now c.args.at 0) 40 c.requires.key.1) (omega (arith, c.requires.inside)) none

pub returns-in_ok-piece-in-Some : goal.returns-in_ok-piece-in-Some
returns-in_ok-piece-in-Some g c =
    let names : Naming = naming (g.F.Finder.found c.args.finder.now) (g.F.Finder.programs c.args.finder.now) in
    let size : c.key_end-size.result ≡ position_or_len ends_key (drop c.args.at c.args.text.now) = c.key_end-size.ensures.place ∙ ap (position_or_len ends_key) c.split_at.ensures.back in
    let some : lock_key_of names (take c.key_end-size.result (drop c.args.at c.args.text.now)) ≡ Some c.in-Some.lock =
    ap (λ l. lock_key_of names (take c.key_end-size.result l)) (sym c.split_at.ensures.back)
    ∙ ap (lock_key_of names) (sym c.split_at-2.ensures.front) ∙ sym c.in_ok-read_key.ensures ∙ c.in-Some.is in
    let read = step_key names c.args.text.now c.args.waiting.now.items c.args.at (get_or c.args.text.now c.args.at 0) c.key_end-size.result c.in-Some.lock (slice_get-get_or c.args.text.now c.args.at 0 c.requires.inside)
    (ne_eqb (get_or c.args.text.now c.args.at 0) 33 c.requires.key.0) (ne_eqb (get_or c.args.text.now c.args.at 0) 40 c.requires.key.1) size some in
    goes_on-from names c.args.text.now (outcome_behind names c.args.text.now c.put_together.new.waiting.items c.in_ok-piece-in-Some.piece.lock c.in_ok-piece-in-Some.piece.end)
    (outcome_at names c.args.text.now c.args.waiting.now.items c.args.at) c.in_ok-piece-in-Some.piece.end c.args.at c.next_behind.new.waiting.items c.next_behind.result
    (c.in_ok-piece-in-Some.ensures.outcome names ∙ read) (omega (arith, c.in_ok-piece-in-Some.ensures.end)) (c.next_behind.ensures names)
