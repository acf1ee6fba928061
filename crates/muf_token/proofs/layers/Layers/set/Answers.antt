use Rattle.std.proofs.Common.{cond, Some, ◌+◌, ap, ◌∙◌}
use Rattle.std.specs.Str.{bytes_eq}
use Rattle.std.specs.Map.{lookup}
use Rattle.muf_token.specs.declared.layers.Entry.{Entry}
use Rattle.muf_token.specs.declared.layers.Layers.{Layers}
use Rattle.muf_token.specs.inner.Layers.{entry_at}
use Rattle.muf_token.proofs.Renewals.{put_back, said_mean, said_kept}
use Rattle.muf_token.proofs.layers.Layers.set.Goals as goal

pub returns-clause-mean : goal.returns-clause-mean
returns-clause-mean c =
    let old = c.args.self.now in
    let mid = c.take_entry.new.self in
    let new : Layers = record { names = c.insert.new.self; stamps = c.tick.new.self.stamps; clock = c.tick.new.self.clock } in
    let e : Entry = record { stamp = c.in_ok-stamp.stamp; body = c.args.body; lent = c.in_ok-entry.entry.lent } in
    said_mean old new c.args.name e c.requires
    (ap (λ m. m.stamps.entries) c.in_ok-stamp.ensures.clock ∙ ap (λ m. m.entries) c.take_entry.ensures.stamps)
    (λ q. put_back c.args.name q (Some e) (entry_at old q) (entry_at mid q) (lookup (bytes_eq q) c.insert.new.self.entries) (c.in_ok-entry.ensures.rest q) (c.in_ok-insert.ensures.updates.0 q ∙ ap (λ o. cond (bytes_eq c.args.name q) (Some e) o) (ap (λ m. lookup (bytes_eq q) m.names.entries) c.in_ok-stamp.ensures.clock)))
    c.in_ok-entry.ensures.entry.0
    (c.in_ok-stamp.ensures.now ∙ ap (λ t. t + 1) c.take_entry.ensures.clock)

pub returns-clause-kept : goal.returns-clause-kept
returns-clause-kept c =
    let old = c.args.self.now in
    let mid = c.take_entry.new.self in
    let new : Layers = record { names = c.insert.new.self; stamps = c.tick.new.self.stamps; clock = c.tick.new.self.clock } in
    let e : Entry = record { stamp = c.in_ok-stamp.stamp; body = c.args.body; lent = c.in_ok-entry.entry.lent } in
    said_kept old new c.args.name e c.requires
    (ap (λ m. m.stamps.entries) c.in_ok-stamp.ensures.clock ∙ ap (λ m. m.entries) c.take_entry.ensures.stamps)
    (λ q. put_back c.args.name q (Some e) (entry_at old q) (entry_at mid q) (lookup (bytes_eq q) c.insert.new.self.entries) (c.in_ok-entry.ensures.rest q) (c.in_ok-insert.ensures.updates.0 q ∙ ap (λ o. cond (bytes_eq c.args.name q) (Some e) o) (ap (λ m. lookup (bytes_eq q) m.names.entries) c.in_ok-stamp.ensures.clock)))
    c.in_ok-entry.ensures.entry.0
    (c.in_ok-stamp.ensures.now ∙ ap (λ t. t + 1) c.take_entry.ensures.clock)
    (ap (λ m. m.clock) c.in_ok-stamp.ensures.clock ∙ ap (λ t. t + 1) c.take_entry.ensures.clock)
    c.insert.ensures.unique
