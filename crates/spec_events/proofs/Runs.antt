-- Histories in parts.
use Rattle.std.proofs.Common.{◌≡◌, List, [], ◌∷◌, ◌++◌, refl, sym, ◌∙◌, ap, subst, append_assoc, append-nil}
use Rattle.muck_model.specs.declared.event.Entry.{Entry}
use Rattle.muck_model.specs.declared.note.Note.{Note}
use Rattle.spec_events.specs.World.{World}
use Rattle.spec_events.specs.Steps.{effect}
use Rattle.spec_events.specs.Histories.{after, Run, AllLawful, History, now, entered, noted, Longer, Grew}

-- some entries, and others behind them
pub after-append : (es fs : List Entry) (w : World) → after w (es ++ fs) ≡ after (after w es) fs
after-append [] fs w = refl
after-append (e ∷ es) fs w = after-append es fs (effect w e)

pub lawful-append : (es fs : List Entry) (w : World) → AllLawful w es → AllLawful (after w es) fs → AllLawful w (es ++ fs)
lawful-append [] fs w p q = q
lawful-append (e ∷ es) fs w p q = (p.0, lawful-append es fs (effect w e) p.1 q)

-- lawful entries are a run to the world after them
pub run_of_lawful : (w : World) (es : List Entry) → AllLawful w es → Run w es (after w es)
run_of_lawful w [] h = refl
run_of_lawful w (e ∷ es) h = (effect w e, record { lawful = h.0; effect = refl }, run_of_lawful (effect w e) es h.1)

-- the same of histories
pub grew_nothing : (h k : History) → k ≡ h → Grew h k []
grew_nothing h k is = record { start = ap (λ (x : History). x.start) is; entries = ap (λ (x : History). x.entries) is ∙ sym (append-nil h.entries); notes = ap (λ (x : History). x.notes) is }

pub grew_one : (h k : History) (e : Entry) → k ≡ entered h e → Grew h k (e ∷ [])
grew_one h k e is = record { start = ap (λ (x : History). x.start) is; entries = ap (λ (x : History). x.entries) is; notes = ap (λ (x : History). x.notes) is }

pub grew_on : (h k m : History) (es fs : List Entry) → Grew h k es → Grew k m fs → Grew h m (es ++ fs)
grew_on h k m es fs p q = record {
  start = q.start ∙ p.start;
  entries = q.entries ∙ ap (λ (all : List Entry). all ++ fs) p.entries ∙ append_assoc h.entries es fs;
  notes = q.notes ∙ p.notes;
}

pub grew_as : (h k : History) (es fs : List Entry) → es ≡ fs → Grew h k es → Grew h k fs
grew_as h k es fs e g = subst (Grew h k) e g

-- the world as it is then
pub now-grew : (h k : History) (es : List Entry) → Grew h k es → now k ≡ after (now h) es
unfolding now
now-grew h k es g = ap (λ (w : World). after w k.entries) g.start ∙ ap (after h.start) g.entries ∙ after-append h.entries es h.start

-- a note changes nothing of the world
pub now-noted : (h : History) (note : Note) → now (noted h note) ≡ now h
unfolding now
now-noted h note = refl

-- and of those that notes may have come with
pub longer_grew : (h k : History) (es : List Entry) → Grew h k es → Longer h k es
longer_grew h k es g = record { start = g.start; entries = g.entries }

pub longer_nothing : (h k : History) → k ≡ h → Longer h k []
longer_nothing h k is = longer_grew h k [] (grew_nothing h k is)

pub longer_one : (h k : History) (e : Entry) → k ≡ entered h e → Longer h k (e ∷ [])
longer_one h k e is = longer_grew h k (e ∷ []) (grew_one h k e is)

pub longer_noted : (h k : History) (note : Note) (e : Entry) → k ≡ entered (noted h note) e → Longer h k (e ∷ [])
longer_noted h k note e is = record { start = ap (λ (x : History). x.start) is; entries = ap (λ (x : History). x.entries) is }

pub longer_on : (h k m : History) (es fs : List Entry) → Longer h k es → Longer k m fs → Longer h m (es ++ fs)
longer_on h k m es fs p q = record {
  start = q.start ∙ p.start;
  entries = q.entries ∙ ap (λ (all : List Entry). all ++ fs) p.entries ∙ append_assoc h.entries es fs;
}

pub longer_as : (h k : History) (es fs : List Entry) → es ≡ fs → Longer h k es → Longer h k fs
longer_as h k es fs e g = subst (Longer h k) e g

pub now-longer : (h k : History) (es : List Entry) → Longer h k es → now k ≡ after (now h) es
unfolding now
now-longer h k es g = ap (λ (w : World). after w k.entries) g.start ∙ ap (after h.start) g.entries ∙ after-append h.entries es h.start
