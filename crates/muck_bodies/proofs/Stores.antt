-- The bodies of a store lead to what it holds.
use Rattle.std.proofs.Common.{◌≡◌, ℕ, Bool, true, false, eqb, ltb, List, length, Option, Some, None, Result, Ok, Err, refl, sym, ◌∙◌, ap, subst}
use Rattle.std.specs.Prelude.{if◌then◌else◌}
use Rattle.muck_log.specs.File.{Held, ReadingEnd, Opened, begin, file_of}
use Rattle.muck_log.specs.Store.{Chosen, store_of, file_picked, file_loaded, newer, pick}
use Rattle.muck_log.proofs.Files.{none_shut}
use Rattle.muck_bodies.specs.Bodies.{bodies_of, Lead, LeadThere}
use Rattle.muck_bodies.proofs.Leading.{leads}
use Rattle.muck_bodies.proofs.Starts.{lead_generation, not_ok, ok_same, shut_bodies}

abbrev Leads : Chosen → List ℕ → Type 0
Leads s file = Lead (begin s.held.generation) (bodies_of file) s.held

-- what is picked, and that it leads
record Picks (second : Bool) (s : Chosen) (file : List ℕ) : Type 0 where
  second_is : s.second ≡ second
  leads : Leads s file

picks_so : (second : Bool) (g : ℕ) (ending : Result ReadingEnd ℕ) (s : Chosen) (file : List ℕ) → file_of file ≡ Some (Some (record { generation = g; ending = ending })) → file_loaded second ending ≡ Ok s → Picks second s file
unfolding begin
picks_so second g (Err at) s file is loads = absurd (not_ok _ s loads)
picks_so second g (Ok e) s file is loads =
    let lead = leads file g e is in
    let gen : e.held.generation ≡ g = lead_generation (begin g) e.held (bodies_of file) lead in
    let whole : Leads (record { second = second; place = e.place; held = e.held }) file = subst (λ n. Lead (begin n) (bodies_of file) e.held) (sym gen) lead in
    let same = ok_same (record { second = second; place = e.place; held = e.held }) s loads in record {
      second_is = sym (ap (λ (k : Chosen). k.second) same);
      leads = subst (λ (k : Chosen). Leads k file) same whole;
    }

picks : (second : Bool) (o : Opened) (s : Chosen) (file : List ℕ) → file_of file ≡ Some (Some o) → file_loaded second o.ending ≡ Ok s → Picks second s file
picks second o s file is loads = picks_so second o.generation o.ending s file is loads

first_picked : (s : Chosen) (a b : List ℕ) → Picks false s a → Leads s (pick s.second a b)
first_picked s a b p = subst (λ k. Leads s (pick k a b)) (sym p.second_is) p.leads

second_picked : (s : Chosen) (a b : List ℕ) → Picks true s b → Leads s (pick s.second a b)
second_picked s a b p = subst (λ k. Leads s (pick k a b)) (sym p.second_is) p.leads

none_picked : (s : Chosen) (a b : List ℕ) → file_of a ≡ None → record { second = false; place = 0; held = begin 1 } ≡ s → Leads s (pick s.second a b)
unfolding bodies_of begin
none_picked s a b is same =
    subst (λ (k : Chosen). Leads k (pick k.second a b)) same (subst (λ bs. Lead (begin 1) bs (begin 1)) (sym (shut_bodies a (none_shut a is) (length a))) refl)

newer_leads : (oa ob : Opened) (s : Chosen) (a b : List ℕ) → file_of a ≡ Some (Some oa) → file_of b ≡ Some (Some ob) → newer oa ob ≡ Ok s → Leads s (pick s.second a b)
newer_leads oa ob s a b is_a is_b = by_same (eqb oa.generation ob.generation)
  where
    by_less : (t : Bool) → (if t then file_loaded false oa.ending else file_loaded true ob.ending) ≡ Ok s → Leads s (pick s.second a b)
    by_less true loads = first_picked s a b (picks false oa s a is_a loads)
    by_less false loads = second_picked s a b (picks true ob s b is_b loads)

    by_same : (t : Bool) → (if t then Err (record { second = true; at = 0 }) else (if ltb ob.generation oa.generation then file_loaded false oa.ending else file_loaded true ob.ending)) ≡ Ok s → Leads s (pick s.second a b)
    by_same true loads = absurd (not_ok _ s loads)
    by_same false loads = by_less (ltb ob.generation oa.generation) loads

leads_by : (fa fb : Option (Option Opened)) (s : Chosen) (a b : List ℕ) → file_of a ≡ fa → file_of b ≡ fb → file_picked fa fb ≡ Ok s → Leads s (pick s.second a b)
unfolding file_picked
leads_by (Some None) fb s a b is_a is_b loads = absurd (not_ok _ s loads)
leads_by None (Some None) s a b is_a is_b loads = absurd (not_ok _ s loads)
leads_by (Some (Some oa)) (Some None) s a b is_a is_b loads = absurd (not_ok _ s loads)
leads_by None None s a b is_a is_b loads = none_picked s a b is_a (ok_same _ s loads)
leads_by (Some (Some oa)) None s a b is_a is_b loads = first_picked s a b (picks false oa s a is_a loads)
leads_by None (Some (Some ob)) s a b is_a is_b loads = second_picked s a b (picks true ob s b is_b loads)
leads_by (Some (Some oa)) (Some (Some ob)) s a b is_a is_b loads = newer_leads oa ob s a b is_a is_b loads

pub lead_there : LeadThere
unfolding store_of
lead_there a b s loads = leads_by (file_of a) (file_of b) s a b refl refl loads
