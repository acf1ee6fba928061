-- Of each process of a list a test is true: what changes keep that, and what it tells.
use Rattle.std.proofs.Common.{◌≡◌, Bool, true, false, not, List, [], ◌∷◌, ◌++◌, refl, ◌∙◌, ap, None}
use Rattle.std.specs.Prelude.{find, map}
use Rattle.std.specs.List.{filter, list_all, list_any}
use Rattle.std.proofs.lemmas.Bool.{and_parts, cond_both, cond-true, cond-false, and_from}
use Rattle.muck_queue.specs.declared.process.Process.{Process}
use Rattle.muck_queue.specs.Queues.{changed_first, without_first}

-- whatever passes the one test passes the other
abbrev pub Gives : (Process → Bool) → (Process → Bool) → Type 0
Gives test other = (p : Process) → test p ≡ true → other p ≡ true

-- whatever passes the one test fails the other
abbrev pub Bars : (Process → Bool) → (Process → Bool) → Type 0
Bars test other = (p : Process) → test p ≡ true → other p ≡ false

-- Changes.

pub all_given : (test other : Process → Bool) → Gives test other → (ps : List Process) → list_all test ps ≡ true → list_all other ps ≡ true
all_given test other g [] h = refl
all_given test other g (p ∷ ps) h =
    let h' = and_parts (test p) (list_all test ps) h in
    and_from (other p) (list_all other ps) (g p h'.0) (all_given test other g ps h'.1)

pub all_changed : (test other here : Process → Bool) (f : Process → Process) → Gives test other → ((p : Process) → test p ≡ true → other (f p) ≡ true) →
    (ps : List Process) → list_all test ps ≡ true → list_all other (changed_first here f ps) ≡ true
all_changed test other here f g k [] h = refl
all_changed test other here f g k (p ∷ ps) h =
    let h' = and_parts (test p) (list_all test ps) h in
    cond_both (here p) (f p ∷ ps) (p ∷ changed_first here f ps) (λ qs. list_all other qs ≡ true)
    (λ e. and_from (other (f p)) (list_all other ps) (k p h'.0) (all_given test other g ps h'.1))
    (λ e. and_from (other p) (list_all other (changed_first here f ps)) (g p h'.0) (all_changed test other here f g k ps h'.1))

pub all_without : (test here : Process → Bool) (ps : List Process) → list_all test ps ≡ true → list_all test (without_first here ps) ≡ true
all_without test here [] h = refl
all_without test here (p ∷ ps) h =
    let h' = and_parts (test p) (list_all test ps) h in
    cond_both (here p) ps (p ∷ without_first here ps) (λ qs. list_all test qs ≡ true)
    (λ e. h'.1)
    (λ e. and_from (test p) (list_all test (without_first here ps)) h'.0 (all_without test here ps h'.1))

pub all_kept : (test keep : Process → Bool) (ps : List Process) → list_all test ps ≡ true → list_all test (filter keep ps) ≡ true
all_kept test keep [] h = refl
all_kept test keep (p ∷ ps) h =
    let h' = and_parts (test p) (list_all test ps) h in
    cond_both (keep p) (p ∷ filter keep ps) (filter keep ps) (λ qs. list_all test qs ≡ true)
    (λ e. and_from (test p) (list_all test (filter keep ps)) h'.0 (all_kept test keep ps h'.1))
    (λ e. all_kept test keep ps h'.1)

pub all_mapped : (test : Process → Bool) (f : Process → Process) → ((p : Process) → test p ≡ true → test (f p) ≡ true) → (ps : List Process) → list_all test ps ≡ true → list_all test (map f ps) ≡ true
all_mapped test f k [] h = refl
all_mapped test f k (p ∷ ps) h =
    let h' = and_parts (test p) (list_all test ps) h in
    and_from (test (f p)) (list_all test (map f ps)) (k p h'.0) (all_mapped test f k ps h'.1)

pub all_added : (test other : Process → Bool) → Gives test other → (p : Process) → other p ≡ true → (ps : List Process) → list_all test ps ≡ true → list_all other (ps ++ p ∷ []) ≡ true
all_added test other g p e [] h = and_from (other p) true e refl
all_added test other g p e (q ∷ ps) h =
    let h' = and_parts (test q) (list_all test ps) h in
    and_from (other q) (list_all other (ps ++ p ∷ [])) (g q h'.0) (all_added test other g p e ps h'.1)

-- What none passes.

pub none_any : (test other : Process → Bool) → Bars test other → (ps : List Process) → list_all test ps ≡ true → list_any other ps ≡ false
none_any test other b [] h = refl
none_any test other b (p ∷ ps) h =
    let h' = and_parts (test p) (list_all test ps) h in
    rw (b p h'.0) (none_any test other b ps h'.1)

pub none_found : (test other : Process → Bool) → Bars test other → (ps : List Process) → list_all test ps ≡ true → find other ps ≡ None
none_found test other b [] h = refl
none_found test other b (p ∷ ps) h =
    let h' = and_parts (test p) (list_all test ps) h in
    cond-false _ _ _ (b p h'.0) ∙ none_found test other b ps h'.1

pub none_filtered : (test other : Process → Bool) → Bars test other → (ps : List Process) → list_all test ps ≡ true → filter other ps ≡ []
none_filtered test other b [] h = refl
none_filtered test other b (p ∷ ps) h =
    let h' = and_parts (test p) (list_all test ps) h in
    cond-false _ _ _ (b p h'.0) ∙ none_filtered test other b ps h'.1

-- so without those that pass it all stay
pub none_taken : (test other : Process → Bool) → Bars test other → (ps : List Process) → list_all test ps ≡ true → filter (λ p. not (other p)) ps ≡ ps
none_taken test other b [] h = refl
none_taken test other b (p ∷ ps) h =
    let h' = and_parts (test p) (list_all test ps) h in
    cond-true _ _ _ (ap not (b p h'.0)) ∙ ap (λ qs. p ∷ qs) (none_taken test other b ps h'.1)
