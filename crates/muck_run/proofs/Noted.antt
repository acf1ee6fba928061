-- The notes of a history, which only grow.
use Rattle.std.proofs.Common.{◌≡◌, List, [], ◌∷◌, ◌++◌, sym, ap, ◌∙◌, append-nil, append_assoc}
use Rattle.muck_model.specs.declared.event.Entry.{Entry}
use Rattle.muck_model.specs.declared.note.Note.{Note}
use Rattle.spec_dumps.specs.inner.Holding.{Quietly}
use Rattle.spec_events.specs.Histories.{History, entered, noted}
use Rattle.muck_run.specs.inner.Dumps.{IsNotedOn}

pub noted_still : (h k : History) → k.notes ≡ h.notes → IsNotedOn h k
noted_still h k same = record { since = []; notes = same ∙ sym (append-nil h.notes) }

pub noted_same : (h k : History) → k ≡ h → IsNotedOn h k
noted_same h k is = noted_still h k (ap (λ (x : History). x.notes) is)

pub noted_one : (h k : History) (e : Entry) → k ≡ entered h e → IsNotedOn h k
noted_one h k e is = noted_still h k (ap (λ (x : History). x.notes) is)

pub noted_more : (h k : History) (note : Note) (e : Entry) → k ≡ entered (noted h note) e → IsNotedOn h k
noted_more h k note e is = record { since = note ∷ []; notes = ap (λ (x : History). x.notes) is }

pub noted_quiet : (h k : History) → Quietly h k → IsNotedOn h k
noted_quiet h k q = noted_still h k q.grew.notes

pub noted_then : (h k m : History) → IsNotedOn h k → IsNotedOn k m → IsNotedOn h m
noted_then h k m a b = record { since = a.since ++ b.since; notes = b.notes ∙ ap (λ (ns : List Note). ns ++ b.since) a.notes ∙ append_assoc h.notes a.since b.since }
