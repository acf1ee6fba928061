use Rattle.std.proofs.Common.{◌≡◌, Bool, sym, ◌∙◌, ap, subst, Option, None, IfOk, OnErr}
use Rattle.std.specs.Prelude.{is_some}
use Rattle.spec_events.specs.Steps.{next_ready, next_process}
use Rattle.spec_events.specs.Histories.{History, now, Grew}
use Rattle.muck_script.specs.Story.{StoryTurn}
use Rattle.muck_script.specs.inner.Settling.{entries_of, slice_of, DiedDuring}
use Rattle.muck_script.proofs.Taking.{line_first, line_taken, some_next, process_next}
use Rattle.muf_debug.specs.Watching.{SeesAll}
use Rattle.muck_debugging.specs.Seen.{views_in}
use Rattle.muck_debugging.proofs.Watched.{sees_none, views_line}
use Rattle.muck_debugging.proofs.turns.take_turn.Goals as goal

pub returns-in-Some-clause-some : goal.returns-in-Some-clause-some
returns-in-Some-clause-some g c = sym (ap is_some (line_first _ _ (sym c.in_ok-exec.ensures.found ∙ c.in-Some.is)))

pub returns-in-Some-clause-world : goal.returns-in-Some-clause-world
returns-in-Some-clause-world g c = line_taken _ _ _ (sym c.in_ok-exec.ensures.found ∙ c.in-Some.is) (rw c.in-Some.is at c.in_ok-exec.ensures.step)

pub returns-in-None-clause-some : goal.returns-in-None-clause-some
returns-in-None-clause-some g c =
    let same : c.exec.new.self ≡ c.args.world.now = rw c.in-None.is at c.in_ok-exec.ensures.step in
    let ready : next_ready (now c.args.world.now) ≡ None = sym c.in_ok-exec.ensures.found ∙ c.in-None.is in
    let P : Bool → Type 0 = λ b. IfOk c.slice_next.result (λ yes. yes ≡ b) in
    subst P (ap (λ (h : History). is_some (next_process (now h))) same ∙ some_next (now c.args.world.now) ready) c.slice_next.ensures.some

pub returns-in-None-clause-world : goal.returns-in-None-clause-world
returns-in-None-clause-world g c =
    let same : c.exec.new.self ≡ c.args.world.now = rw c.in-None.is at c.in_ok-exec.ensures.step in
    let ready : next_ready (now c.args.world.now) ≡ None = sym c.in_ok-exec.ensures.found ∙ c.in-None.is in
    let P : History → Type 0 = λ x. IfOk c.slice_next.result (λ _. Grew x c.slice_next.new.world (entries_of (slice_of (next_process (now x))))) in
    let Q : Option StoryTurn → Type 0 = λ o. IfOk c.slice_next.result (λ _. Grew c.args.world.now c.slice_next.new.world (entries_of o)) in
    subst Q (process_next (now c.args.world.now) ready) (subst P same c.slice_next.ensures.world)

pub returns-in-None-clause-died : goal.returns-in-None-clause-died
returns-in-None-clause-died g c =
    let same : c.exec.new.self ≡ c.args.world.now = rw c.in-None.is at c.in_ok-exec.ensures.step in
    let ready : next_ready (now c.args.world.now) ≡ None = sym c.in_ok-exec.ensures.found ∙ c.in-None.is in
    let P : History → Type 0 = λ x. OnErr c.slice_next.result (DiedDuring (entries_of (slice_of (next_process (now x)))) x c.slice_next.new.world) in
    let Q : Option StoryTurn → Type 0 = λ o. OnErr c.slice_next.result (DiedDuring (entries_of o) c.args.world.now c.slice_next.new.world) in
    subst Q (process_next (now c.args.world.now) ready) (subst P same c.slice_next.ensures.died)

pub returns-in-Some-clause-seen : goal.returns-in-Some-clause-seen
returns-in-Some-clause-seen g c = sees_none g.W.Watch.tells _ _ (views_line _ _ _ (line_first _ _ (sym c.in_ok-exec.ensures.found ∙ c.in-Some.is)))

pub returns-in-None-clause-seen : goal.returns-in-None-clause-seen
returns-in-None-clause-seen g c =
    let same : c.exec.new.self ≡ c.args.world.now = rw c.in-None.is at c.in_ok-exec.ensures.step in
    let ready : next_ready (now c.args.world.now) ≡ None = sym c.in_ok-exec.ensures.found ∙ c.in-None.is in
    let P : History → Type 0 = λ x. IfOk c.slice_next.result (λ _. SeesAll g.W.Watch.tells (views_in (now x) (entries_of (slice_of (next_process (now x))))) c.args.watch.now c.slice_next.new.watch) in
    let Q : Option StoryTurn → Type 0 = λ o. IfOk c.slice_next.result (λ _. SeesAll g.W.Watch.tells (views_in (now c.args.world.now) (entries_of o)) c.args.watch.now c.slice_next.new.watch) in
    subst Q (process_next (now c.args.world.now) ready) (subst P same c.slice_next.ensures.seen)
