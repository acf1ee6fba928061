-- The process that `@kill` ends is the one that the text behind its word means.
use Rattle.std.proofs.Common.{◌≡◌, ℕ, List, [], ◌∷◌, Some, None, Result, Ok, Err, refl, sym, ◌∙◌, ap, subst}
use Rattle.std.specs.Prelude.{OnOk}
use Rattle.std.specs.Option.{option_map_or}
use Rattle.muck_model.specs.declared.memory.NoMemory.{NoMemory}
use Rattle.muck_model.specs.Decimal.{decimal_of}
use Rattle.spec_live.specs.Objects.{nothing}
use Rattle.spec_live.specs.Lives.{Live, reading, either, unchanged}
use Rattle.spec_rights.specs.declared.act.Actor.{Actor}
use Rattle.spec_commands.specs.declared.outcome.Outcome.{Outcome}
use Rattle.spec_commands.specs.declared.outcome.Outcome.TheVariants.{Done as Finished, NotMine, Start}
use Rattle.spec_commands.specs.declared.shape.Arguments.{Arguments}
use Rattle.spec_commands.specs.Finding.{where_so}
use Rattle.spec_commands.specs.Going.{Play, ended}
use Rattle.spec_commands.specs.Reading.{with_fit, with_parts, with_arguments}
use Rattle.muck_queue.specs.Queues.{Queue, without_process}
use Rattle.spec_admin.specs.declared.word.AdminWord.{AdminWord}
use Rattle.spec_admin.specs.declared.word.AdminWord.TheVariants.{Kill}
use Rattle.spec_admin.specs.Processes.{process_killed}
use Rattle.spec_admin.specs.Lines.{admin_shape, ended_by}
use Rattle.muck_perm.specs.declared.guard.Guard.{Guard}
use Rattle.muck_perm.specs.inner.Guards.{world_of}
use Rattle.cmd_common.specs.inner.Takes.{Takes}

-- a line that hands its text on, and one that is nobody's
abbrev hands : Arguments → Play
hands args = ended (Start nothing nothing args.first.text args.first.text) unchanged

abbrev nobodys : Arguments → Play
nobodys args = ended NotMine unchanged

abbrev handed : Outcome → List ℕ
handed (Start program trigger command arg) = arg
handed outcome = []

kill_hands : (d : ℕ) (a : Actor) (word text : List ℕ) (w : Live) → handed (with_arguments d a word (admin_shape Kill) text hands w).1 ≡ text
unfolding with_arguments with_parts with_fit where_so reading either ended
kill_hands d a word [] w = refl
kill_hands d a word (b ∷ text) w = refl

-- the text is the argument
same_text : (d : ℕ) (a : Actor) (word text : List ℕ) (args : Arguments) (old mid : Guard) → Takes (with_arguments d a word (admin_shape Kill) text) old mid (Ok (Some args)) → args.first.text ≡ text
unfolding ended
same_text d a word text args old mid t = sym (ap (λ (r : Live × Outcome). handed r.1) (t.1 hands)) ∙ kill_hands d a word text (world_of old)

-- without one nothing is meant
none_meant : (d : ℕ) (a : Actor) (word text : List ℕ) (q : Queue) (old new : Guard) (w : Live) → Takes (with_arguments d a word (admin_shape Kill) text) old new (Ok None) → process_killed a q text w ≡ None
unfolding with_arguments with_parts with_fit where_so reading either ended decimal_of
none_meant d a word [] q old new w t = refl
none_meant d a word (b ∷ text) q old new w t = let e : Finished ≡ NotMine = (t nobodys).1 in absurd cc

text_taken : (command : AdminWord) (d : ℕ) (a : Actor) (word text : List ℕ) (q : Queue) (args : Arguments) (old mid : Guard) (w : Live) →
    Takes (with_arguments d a word (admin_shape command) text) old mid (Ok (Some args)) → ended_by a q args.first.text w (Some command) ≡ ended_by a q text w (Some command)
text_taken Kill d a word text q args old mid w t = ap (λ s. process_killed a q s w) (same_text d a word text args old mid t)
text_taken _ d a word text q args old mid w t = refl

pub text_untaken : (command : AdminWord) (d : ℕ) (a : Actor) (word text : List ℕ) (q : Queue) (old new : Guard) (w : Live) →
    Takes (with_arguments d a word (admin_shape command) text) old new (Ok None) → ended_by a q text w (Some command) ≡ None
text_untaken Kill d a word text q old new w t = none_meant d a word text q old new w t
text_untaken _ d a word text q old new w t = refl

-- the processes behind a command with this text
abbrev pub behind : Actor → Live → List ℕ → AdminWord → Queue → Queue
behind a w text command q = option_map_or (λ p. without_process p.number q) (ended_by a q text w (Some command)) q

pub queue_taken : (command : AdminWord) (d : ℕ) (word text : List ℕ) (args : Arguments) (old mid : Guard) (q r : Queue) (result : Result Outcome NoMemory) →
    Takes (with_arguments d old.actor word (admin_shape command) text) old mid (Ok (Some args)) →
    OnOk result (r ≡ behind mid.actor (world_of mid) args.first.text command q) → OnOk result (r ≡ behind old.actor (world_of old) text command q)
queue_taken command d word text args old mid q r (Ok outcome) t h =
    let P : Guard → Type 0 = λ g. r ≡ behind g.actor (world_of g) args.first.text command q in
    subst P t.0 h ∙ ap (λ p. option_map_or (λ x. without_process x.number q) p q) (text_taken command d old.actor word text q args old mid (world_of old) t)
queue_taken command d word text args old mid q r (Err e) t h = tt

pub queue_untaken : (command : AdminWord) (d : ℕ) (word text : List ℕ) (old new : Guard) (q : Queue) →
    Takes (with_arguments d old.actor word (admin_shape command) text) old new (Ok None) → q ≡ behind old.actor (world_of old) text command q
queue_untaken command d word text old new q t = sym (ap (λ p. option_map_or (λ x. without_process x.number q) p q) (text_untaken command d old.actor word text q old new (world_of old) t))
