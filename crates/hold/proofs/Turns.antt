-- A list of operations, one performed after the other.
use Rattle.std.proofs.Common.{◌≡◌, ℕ, ◌+◌, ◌<◌, List, [], ◌∷◌, ◌++◌, map, length, get_or, take, set, replicate, None, sym, refl, ap, ◌∙◌, subst}
use Rattle.std.proofs.lemmas.List.{take_more_set, map-set, set-get_or, get_or-map, length-replicate}
use Rattle.hold.specs.Meaning.{Cells}
use Rattle.hold.specs.Law.{Event, History, Law}
use Rattle.hold.specs.Told.{event_of, task_of, told}
use Rattle.hold.specs.declared.operations.Operation.{Operation}
use Rattle.hold.proofs.Laws.{law_empty}

told_push : (h : History) (os : List Operation) (o : Operation) → told h (os ++ o ∷ []) ≡ event_of o ∷ told h os
told_push h [] o = refl
told_push h (x ∷ os) o = told_push (event_of x ∷ h) os o

pub told_more : (os : List Operation) (i : ℕ) (o : Operation) → i < length os → told [] (take (i + 1) (set os i o)) ≡ event_of o ∷ told [] (take i os)
told_more os i o h = ap (told []) (take_more_set os i o h) ∙ told_push [] (take i os) o

pub tasks_same : (os : List Operation) (i : ℕ) (d o : Operation) → i < length os → o.task ≡ (get_or os i d).task → map task_of (set os i o) ≡ map task_of os
tasks_same os i d o h e =
    map-set task_of os i o ∙ ap (set (map task_of os) i) (e ∙ sym (get_or-map task_of os i d d.task h)) ∙ set-get_or (map task_of os) i d.task

-- one more operation
pub law_more : (p top most : ℕ) (g h : History) (e : Event) (cs ds : Cells) → top ≡ most → Law p most h cs →
    ((k : History) → Law (length cs) top k cs → Law (length cs) top (e ∷ k) ds) → g ≡ e ∷ h → Law p most g ds
law_more p top most g h e cs ds t l step q =
    subst (λ k. Law p most k ds) (sym q)
    (subst (λ n. Law n most (e ∷ h) ds) l.number
    (subst (λ n. Law (length cs) n (e ∷ h) ds) t
    (step h (subst (λ n. Law (length cs) n h cs) (sym t) (subst (λ n. Law n most h cs) (sym l.number) l)))))

-- a hold that was emptied
pub law_emptied : (p most : ℕ) (cs : Cells) → cs ≡ replicate p None → Law (length cs) most [] cs
law_emptied p most cs e =
    let n : length cs ≡ p = ap length e ∙ length-replicate p None in
    subst (λ m. Law m most [] cs) (sym n) (subst (Law p most []) (sym e) (law_empty p most))
