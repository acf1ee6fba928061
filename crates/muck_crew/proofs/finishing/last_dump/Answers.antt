use Rattle.spec_events.specs.Histories.{now}
use Rattle.muck_crew.proofs.Lasting.{may_last}
use Rattle.muck_crew.proofs.finishing.last_dump.Goals as goal

pub dump-answer-requires-clause-may : goal.dump-answer-requires-clause-may
dump-answer-requires-clause-may g c = may_last (now c.args.world.now) c.requires.idle

pub returns-clause-dump : goal.returns-clause-dump
returns-clause-dump g c = record {
  answer = c.dump-answer.result;
  log' = c.dump-answer.new.store.log;
  made = c.dump-answer.ensures.happened;
  is = c.why_by.ensures;
  kept = c.dump-answer.ensures.kept;
  cause = c.dump-answer.ensures.cause;
  apart = c.dump-answer.ensures.apart;
}
