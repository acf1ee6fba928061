-- What an entry changes is licensed.
use Rattle.std.proofs.Common.{◌≡◌, List, [], ◌∷◌, ◌++◌, sym, ◌∙◌, ap, subst}
use Rattle.muck_model.specs.declared.event.Entry.{Entry}
use Rattle.spec_events.specs.World.{World}
use Rattle.spec_events.specs.Steps.{effect}
use Rattle.spec_events.specs.Histories.{History, after, now, entered, AllLicensed, EntryLicensed}
use Rattle.spec_events.proofs.Turns.{all_licensed}
use Rattle.muck_machine.specs.declared.past.Past.{Past}
use Rattle.muck_machine.specs.inner.Keeping.{Keeps, history, told}

last_licensed : (es : List Entry) (e : Entry) (w : World) → AllLicensed w (es ++ e ∷ []) → EntryLicensed e (after w es) (after w (es ++ e ∷ []))
last_licensed [] e w h = h.0
last_licensed (x ∷ es) e w h = last_licensed es e (effect w x) h.1

-- where a history grew by one, between the world before it and the world after it
entered_licensed : (p : Past) (state : World) (h k : History) (e : Entry) → Keeps p state → history p ≡ h → k ≡ entered h e → EntryLicensed e (now h) (now k)
unfolding now
entered_licensed p state h k e kept v is =
    let all : AllLicensed p.origin (p.tale.entries ++ e ∷ []) = all_licensed p.origin (p.tale.entries ++ e ∷ []) kept.told kept.numbered in
    subst (λ (x : History). EntryLicensed e (now h) (now x)) (sym is)
    (subst (λ (x : History). EntryLicensed e (now x) (now (entered x e))) v (last_licensed p.tale.entries e p.origin all))

-- so where that entry was told
pub told_licensed : (p q : Past) (state : World) (h : History) (e : Entry) → Keeps p state → history p ≡ h → q ≡ told e p → EntryLicensed e (now h) (now (history q))
told_licensed p q state h e kept v is = entered_licensed p state h (history q) e kept v (ap history is ∙ ap (λ (x : History). entered x e) v)
