use Rattle.std.proofs.Common.{◌≡◌, ◌+◌, ◌-◌, ◌*◌, ◌≤◌, suc, [], length, map, drop}
use Rattle.std.specs.Prelude.{None, Some, option_map, IfSome}
use Rattle.muck_model.specs.Bytes.{text_fault, text_most}
use Rattle.mpi.specs.Brackets.{formula_pieces}
use Rattle.mpi.specs.Made.{Inside}
use Rattle.mpi.specs.Values.{nth, items}
use Rattle.mpi.specs.Meaning.{scene_of, meaning, body_entered, spelled, each_value, until_wanted, while_true, turns_while, turns_for, each_item}
use Rattle.mpi.proofs.evaluator.+evaluating.Given as goal

abbrev pub decreases-text : goal.decreases-text
decreases-text g l = 8 * l.nesting + 2

abbrev pub decreases-call : goal.decreases-call
decreases-call g l = 8 * l.nesting + 1

abbrev pub decreases-lazily : goal.decreases-lazily
decreases-lazily g l = 8 * l.deeper + 7

abbrev pub decreases-in_scope : goal.decreases-in_scope
decreases-in_scope g l = 8 * l.deeper + 6

abbrev pub decreases-bodies : goal.decreases-bodies
decreases-bodies g l = 8 * l.deeper + 5

abbrev pub decreases-until : goal.decreases-until
decreases-until g l = 8 * l.deeper + 4

abbrev pub decreases-while_true : goal.decreases-while_true
decreases-while_true g l = 8 * l.deeper + 4

abbrev pub decreases-values_of : goal.decreases-values_of
decreases-values_of g l = 8 * l.deeper + 4

abbrev pub decreases-turns_for : goal.decreases-turns_for
decreases-turns_for g l = 8 * l.deeper + 4

abbrev pub decreases-each_item : goal.decreases-each_item
decreases-each_item g l = 8 * l.deeper + 4

abbrev pub decreases-argument : goal.decreases-argument
decreases-argument g l = 8 * l.deeper + 3

abbrev pub decreases-text_with : goal.decreases-text_with
decreases-text_with g l = 8 * l.deeper + 3

abbrev pub decreases-text-loop-first : goal.decreases-text-loop-first
decreases-text-loop-first g l = length l.rest

-- what is made so far, and then the rest's pieces, are what the text means
abbrev pub invariant-text-loop-first : goal.invariant-text-loop-first
invariant-text-loop-first g l = record {
  whole :
      meaning (scene_of g.H.Host.powers l.place.this) l.nesting l.text (l.initial.mind, g.H.Host.seen l.initial.host)
      ≡ spelled (body_entered (scene_of g.H.Host.powers l.place.this) l.nesting) l.out.items (formula_pieces l.rest) (l.mind, g.H.Host.seen l.host);
  inside : Inside l.out.items;
  short : length l.out.items ≤ text_most;
  rest : text_fault l.rest ≡ None;
  same : g.H.Host.same l.initial.host l.host;
}

-- the values so far, and those of the texts that are left
abbrev pub invariant-values_of-loop-each : goal.invariant-values_of-loop-each
invariant-values_of-loop-each g l = record {
  whole :
      each_value (meaning (scene_of g.H.Host.powers l.place.this) l.deeper) [] (map (λ x. x.now) l.texts) (l.initial.mind, g.H.Host.seen l.initial.host)
      ≡ each_value (meaning (scene_of g.H.Host.powers l.place.this) l.deeper) l.values.items (drop l.each-index (map (λ x. x.now) l.texts)) (l.mind, g.H.Host.seen l.host);
  same : g.H.Host.same l.initial.host l.host;
}

-- the texts that are left decide
abbrev pub invariant-until-loop-each : goal.invariant-until-loop-each
invariant-until-loop-each g l = record {
  whole :
      until_wanted l.wanted (meaning (scene_of g.H.Host.powers l.place.this) l.deeper) (map (λ x. x.now) l.texts) (l.initial.mind, g.H.Host.seen l.initial.host)
      ≡ until_wanted l.wanted (meaning (scene_of g.H.Host.powers l.place.this) l.deeper) (drop l.each-index (map (λ x. x.now) l.texts)) (l.mind, g.H.Host.seen l.host);
  same : g.H.Host.same l.initial.host l.host;
}

-- the turns that are left
abbrev pub invariant-while_true-loop-turn : goal.invariant-while_true-loop-turn
invariant-while_true-loop-turn g l = record {
  whole :
      while_true (meaning (scene_of g.H.Host.powers l.place.this) l.deeper) (map (λ x. x.now) l.texts) (l.initial.mind, g.H.Host.seen l.initial.host)
      ≡ turns_while (l.turns - l._turn) (meaning (scene_of g.H.Host.powers l.place.this) l.deeper) (nth 0 (map (λ x. x.now) l.texts)) (nth 1 (map (λ x. x.now) l.texts)) l.last (l.mind, g.H.Host.seen l.host);
  same : g.H.Host.same l.initial.host l.host;
}

abbrev pub invariant-turns_for-loop-turn : goal.invariant-turns_for-loop-turn
invariant-turns_for-loop-turn g l = record {
  whole :
      turns_for (suc l.initial.mind.left) (meaning (scene_of g.H.Host.powers l.place.this) l.deeper) l.name l.body l.range.end l.range.step (Some l.range.from) [] (l.initial.mind, g.H.Host.seen l.initial.host)
      ≡ turns_for (l.turns - l._turn) (meaning (scene_of g.H.Host.powers l.place.this) l.deeper) l.name l.body l.range.end l.range.step l.next l.last (l.mind, g.H.Host.seen l.host);
  same : g.H.Host.same l.initial.host l.host;
}

-- what is gathered of the items so far, and the items that are left
abbrev pub invariant-each_item-loop-item : goal.invariant-each_item-loop-item
invariant-each_item-loop-item g l = record {
  whole :
      each_item l.keep (meaning (scene_of g.H.Host.powers l.place.this) l.deeper) l.name l.body None (items l.list) (l.initial.mind, g.H.Host.seen l.initial.host)
      ≡ each_item l.keep (meaning (scene_of g.H.Host.powers l.place.this) l.deeper) l.name l.body (option_map (λ bytes. bytes.items) l.gathered) (drop l.item-index (map (λ x. x.now) l.item-items)) (l.mind, g.H.Host.seen l.host);
  gathered : IfSome l.gathered (λ bytes. text_fault bytes.items ≡ None);
  same : g.H.Host.same l.initial.host l.host;
}
