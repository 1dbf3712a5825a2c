-- The text of an answer is read as the rules say, and in no other way.
use Rattle.std.proofs.Common.{◌≡◌, ℕ, zero, suc, ◌-◌, ◌≤◌, Bool, true, false, cond, not, ◌&&◌, eqb, leb, List, [], ◌∷◌, ◌++◌, length, get_or, drop, replicate, is_some, Some, None, Ok, Err, Option, Result, sym, refl, ap, ◌∙◌, subst, arith, length-drop, get_or-drop, drop-drop}
use lib.ListN.{length-replicate}
use Rattle.frame.proofs.Checks.{le_gives, le_is, eq_gives, eq_is, ne_gives, ne_is, clash, both_true}
use Rattle.frame.proofs.Firsts.{follows_is, follows_gives, follows_join, follows_back}
use Rattle.frame.specs.Forms.{Spot, Follows, closed, first_wrong}
use Rattle.frame.specs.Forms.Spot.{figure, just}
use Rattle.frame.specs.Texts.{fault, reason, isn_of, Front, Confirms, Rejects, Unlisted, answer, Says, follows, front_right, is_trade_number, is_reason, answer_of}
use Rattle.frame.specs.Texts.Says.{confirms, rejects, unlisted, unlike}
use Rattle.frame.specs.declared.texts.Answer.{Answer}
use Rattle.frame.specs.declared.texts.Verdict.TheVariants.{Confirmed, Rejected}
use Rattle.notation.specs.declared.refusals.FieldFault.{FieldFault}
use Rattle.notation.specs.declared.refusals.Why.TheVariants.{Notation, Code}
use Rattle.std.proofs.lemmas.Bool.Decides.{nat_tests}

no_wrong : (o : Option ℕ) → not (is_some o) ≡ true → o ≡ None
no_wrong None h = refl
no_wrong (Some k) h = let z : ◌≡◌ {A = ℕ} 0 1 = cc in absurd (omega arith)

-- the test for a form is true exactly where the form is followed
pub test_gives : (ps : List Spot) (s : List ℕ) → follows ps s ≡ true → Follows ps s
test_gives ps s h = follows_gives ps s (no_wrong (first_wrong ps s) h)

pub test_is : (ps : List Spot) (s : List ℕ) → Follows ps s → follows ps s ≡ true
test_is ps s f = ap (λ (o : Option ℕ). not (is_some o)) (follows_is ps s f)

not_gives : (b : Bool) → not b ≡ true → b ≡ false
not_gives true h = let z : ◌≡◌ {A = ℕ} 0 1 = cc in absurd (omega arith)
not_gives false h = refl

-- the front of an answer
pub front_gives : (s : List ℕ) → front_right s ≡ true → Front s
front_gives s h =
    let p = both_true (leb 9 (length s)) (follows (closed 6) s && (not (eqb (isn_of s) 0) && eqb (get_or s 8 0) 44)) h in
    let q = both_true (follows (closed 6) s) (not (eqb (isn_of s) 0) && eqb (get_or s 8 0) 44) p.1 in
    let r = both_true (not (eqb (isn_of s) 0)) (eqb (get_or s 8 0) 44) q.1 in
    record {
      digits_and_comma = test_gives (closed 6) s q.0;
      long = le_gives 9 (length s) p.0;
      comma = eq_gives (get_or s 8 0) 44 r.1;
      some = ne_gives (isn_of s) 0 (not_gives (eqb (isn_of s) 0) r.0);
    }

pub front_is : (s : List ℕ) → Front s → front_right s ≡ true
front_is s f =
    let a = le_is 9 (length s) f.long in
    let b = test_is (closed 6) s f.digits_and_comma in
    let c : not (eqb (isn_of s) 0) ≡ true = ap not (ne_is (isn_of s) 0 f.some) in
    let d = eq_is (get_or s 8 0) 44 f.comma in
    λ i. a i && (b i && (c i && d i))

-- the letter and its comma
letter : (x : ℕ) (s : List ℕ) → Front s → get_or s 7 0 ≡ x → Follows (just x ∷ (just 44 ∷ [])) (drop 7 s)
letter x s f e zero l =
    let d : length (drop 7 s) ≡ length s - 7 = length-drop 7 s in
    let n : 9 ≤ length s = f.long in
    (omega arith, eq_is (get_or (drop 7 s) 0 0) x (get_or-drop 7 s 0 0 ∙ e))
letter x s f e (suc zero) l =
    let d : length (drop 7 s) ≡ length s - 7 = length-drop 7 s in
    let n : 9 ≤ length s = f.long in
    (omega arith, eq_is (get_or (drop 7 s) 1 0) 44 (get_or-drop 7 s 1 0 ∙ f.comma))
letter x s f e (suc (suc j)) l = absurd (omega arith)

-- an answer whose front is right, with this letter, and what follows it
whole : (x : ℕ) (ps : List Spot) (s : List ℕ) → Front s → get_or s 7 0 ≡ x → Follows ps (drop 9 s) → Follows (closed 6 ++ (just x ∷ (just 44 ∷ ps))) s
whole x ps s f e g =
    let behind : Follows ps (drop 2 (drop 7 s)) = subst (Follows ps) (sym (drop-drop 2 7 s)) g in
    let middle : Follows (just x ∷ (just 44 ∷ ps)) (drop 7 s) = follows_join (just x ∷ (just 44 ∷ [])) ps (drop 7 s) (letter x s f e) behind in
    follows_join (closed 6) (just x ∷ (just 44 ∷ ps)) s f.digits_and_comma middle

parts : (x : ℕ) (ps : List Spot) (s : List ℕ) → Follows (closed 6 ++ (just x ∷ (just 44 ∷ ps))) s → (get_or s 7 0 ≡ x) × Follows ps (drop 9 s)
parts x ps s g =
    let middle : Follows (just x ∷ (just 44 ∷ ps)) (drop 7 s) = follows_back (closed 6) (just x ∷ (just 44 ∷ ps)) s g in
    let behind : Follows ps (drop 2 (drop 7 s)) = follows_back (just x ∷ (just 44 ∷ [])) ps (drop 7 s) middle in
    (sym (get_or-drop 7 s 0 0) ∙ eq_gives (get_or (drop 7 s) 0 0) x (middle 0 (omega arith)).1, subst (Follows ps) (drop-drop 2 7 s) behind)

pub confirms_gives : (s : List ℕ) → front_right s ≡ true → eqb (get_or s 7 0) 66 ≡ true → is_trade_number (drop 9 s) ≡ true → Confirms s
confirms_gives s a b c =
    let f = front_gives s a in
    let n = length (drop 9 s) in
    let p = both_true (leb 1 n) (leb n 16 && follows (replicate n figure) (drop 9 s)) c in
    let q = both_true (leb n 16) (follows (replicate n figure) (drop 9 s)) p.1 in
    let g = whole 66 (replicate n figure) s f (eq_gives (get_or s 7 0) 66 b) (test_gives (replicate n figure) (drop 9 s) q.1) in
    let d : length (drop 9 s) ≡ length s - 9 = length-drop 9 s in
    let r : length (replicate n figure) ≡ n = length-replicate n figure in
    let long : 9 ≤ length s = f.long in
    (f, n, le_gives 1 n p.0, le_gives n 16 q.0, (omega arith, g))

-- the three tests that such a text passes
confirms_tests : (s : List ℕ) → Confirms s → (front_right s ≡ true) × (eqb (get_or s 7 0) 66 ≡ true) × (is_trade_number (drop 9 s) ≡ true)
confirms_tests s (f, n, low, high, (l, g)) =
    let p = parts 66 (replicate n figure) s g in
    let d : length (drop 9 s) ≡ length s - 9 = length-drop 9 s in
    let r : length (replicate n figure) ≡ n = length-replicate n figure in
    let e : n ≡ length (drop 9 s) = omega arith in
    let x = le_is 1 (length (drop 9 s)) (omega arith) in
    let y = le_is (length (drop 9 s)) 16 (omega arith) in
    let z = test_is (replicate (length (drop 9 s)) figure) (drop 9 s) (subst (λ (m : ℕ). Follows (replicate m figure) (drop 9 s)) e p.1) in
    (front_is s f, eq_is (get_or s 7 0) 66 p.0, λ i. x i && (y i && z i))

pub confirms_is : (s : List ℕ) → Confirms s → answer_of s ≡ Ok (answer Confirmed s)
confirms_is s h =
    let t = confirms_tests s h in
    let a = t.0 in
    let b = t.1 in
    let c = t.2 in
    λ i. cond (a i) (cond (b i) (cond (c i) (Ok (answer Confirmed s)) (Err (fault Notation 0)))
    (cond (eqb (get_or s 7 0) 65) (cond (is_reason (drop 9 s)) (Ok (answer Rejected s)) (Err (fault Notation 0))) (Err (fault Code 7))))
    (Err (fault Notation 0))

pub rejects_gives : (s : List ℕ) → front_right s ≡ true → eqb (get_or s 7 0) 65 ≡ true → is_reason (drop 9 s) ≡ true → Rejects s
rejects_gives s a b c =
    let f = front_gives s a in
    let p = both_true (eqb (length (drop 9 s)) 7) (follows reason (drop 9 s)) c in
    let g = whole 65 reason s f (eq_gives (get_or s 7 0) 65 b) (test_gives reason (drop 9 s) p.1) in
    let d : length (drop 9 s) ≡ length s - 9 = length-drop 9 s in
    let n : length (drop 9 s) ≡ 7 = eq_gives (length (drop 9 s)) 7 p.0 in
    let long : 9 ≤ length s = f.long in
    (f, (omega arith, g))

apart : (m : ℕ) → m ≡ 65 → eqb m 66 ≡ false
apart m e = grind (arith, nat_tests)

rejects_tests : (s : List ℕ) → Rejects s → (front_right s ≡ true) × (get_or s 7 0 ≡ 65) × (is_reason (drop 9 s) ≡ true)
rejects_tests s (f, (l, g)) =
    let p = parts 65 reason s g in
    let d : length (drop 9 s) ≡ length s - 9 = length-drop 9 s in
    let x = eq_is (length (drop 9 s)) 7 (omega arith) in
    let y = test_is reason (drop 9 s) p.1 in
    (front_is s f, p.0, λ i. x i && y i)

pub rejects_is : (s : List ℕ) → Rejects s → answer_of s ≡ Ok (answer Rejected s)
rejects_is s h =
    let t = rejects_tests s h in
    let a = t.0 in
    let e = t.1 in
    let x = t.2 in
    let b = apart (get_or s 7 0) e in
    let c = eq_is (get_or s 7 0) 65 e in
    λ i. cond (a i) (cond (b i) (cond (is_trade_number (drop 9 s)) (Ok (answer Confirmed s)) (Err (fault Notation 0)))
    (cond (c i) (cond (x i) (Ok (answer Rejected s)) (Err (fault Notation 0))) (Err (fault Code 7))))
    (Err (fault Notation 0))

pub unlisted_is : (s : List ℕ) → Unlisted s → answer_of s ≡ Err (fault Code 7)
unlisted_is s (f, m, n) =
    let a = front_is s f in
    let b = ne_is (get_or s 7 0) 66 m in
    let c = ne_is (get_or s 7 0) 65 n in
    λ i. cond (a i) (cond (b i) (cond (is_trade_number (drop 9 s)) (Ok (answer Confirmed s)) (Err (fault Notation 0)))
    (cond (c i) (cond (is_reason (drop 9 s)) (Ok (answer Rejected s)) (Err (fault Notation 0))) (Err (fault Code 7))))
    (Err (fault Notation 0))

-- the five ways through the reader of an answer
way : (a b c d e : Bool) → Result Answer FieldFault → Result Answer FieldFault → Result Answer FieldFault
way a b c d e x y = cond a (cond b (cond c x (Err (fault Notation 0))) (cond d (cond e y (Err (fault Notation 0))) (Err (fault Code 7)))) (Err (fault Notation 0))

-- where none of the three texts stands, the answer is that it is not of the notation
unlike_way : (s : List ℕ) (a b c d e : Bool) → front_right s ≡ a → eqb (get_or s 7 0) 66 ≡ b → is_trade_number (drop 9 s) ≡ c → eqb (get_or s 7 0) 65 ≡ d → is_reason (drop 9 s) ≡ e →
    (Confirms s → ⊥) → (Rejects s → ⊥) → (Unlisted s → ⊥) → way a b c d e (Ok (answer Confirmed s)) (Ok (answer Rejected s)) ≡ Err (fault Notation 0)
unfolding way
unlike_way s false b c d e ha hb hc hd he x y z = refl
unlike_way s true true true d e ha hb hc hd he x y z = absurd (x (confirms_gives s ha hb hc))
unlike_way s true true false d e ha hb hc hd he x y z = refl
unlike_way s true false c true true ha hb hc hd he x y z = absurd (y (rejects_gives s ha hd he))
unlike_way s true false c true false ha hb hc hd he x y z = refl
unlike_way s true false c false e ha hb hc hd he x y z =
    absurd (z (front_gives s ha, ne_gives (get_or s 7 0) 66 hb, ne_gives (get_or s 7 0) 65 hd))

pub unlike_is : (s : List ℕ) → (Confirms s → ⊥) → (Rejects s → ⊥) → (Unlisted s → ⊥) → answer_of s ≡ Err (fault Notation 0)
unfolding way
unlike_is s x y z =
    unlike_way s (front_right s) (eqb (get_or s 7 0) 66) (is_trade_number (drop 9 s)) (eqb (get_or s 7 0) 65) (is_reason (drop 9 s)) refl refl refl refl refl x y z

-- whatever a text says by the rules is what is read
pub answer_only : (s : List ℕ) (r : Result Answer FieldFault) → Says s r → r ≡ answer_of s
answer_only s r (confirms c e) = e ∙ sym (confirms_is s c)
answer_only s r (rejects c e) = e ∙ sym (rejects_is s c)
answer_only s r (unlisted c e) = e ∙ sym (unlisted_is s c)
answer_only s r (unlike x y z e) = e ∙ sym (unlike_is s x y z)

-- a text that fails one of its tests is not such a text
no_confirms : (s : List ℕ) → (front_right s ≡ true → eqb (get_or s 7 0) 66 ≡ true → is_trade_number (drop 9 s) ≡ true → ⊥) → Confirms s → ⊥
no_confirms s h c = let t = confirms_tests s c in h t.0 t.1 t.2

no_rejects : (s : List ℕ) → (front_right s ≡ true → eqb (get_or s 7 0) 65 ≡ true → is_reason (drop 9 s) ≡ true → ⊥) → Rejects s → ⊥
no_rejects s h c = let t = rejects_tests s c in h t.0 (eq_is (get_or s 7 0) 65 t.1) t.2

both_letters : (m : ℕ) → eqb m 66 ≡ true → eqb m 65 ≡ true → ⊥
both_letters m p q = grind (arith, nat_tests)

-- what is read is what the text says by the rules
says_way : (s : List ℕ) (a b c d e : Bool) → front_right s ≡ a → eqb (get_or s 7 0) 66 ≡ b → is_trade_number (drop 9 s) ≡ c → eqb (get_or s 7 0) 65 ≡ d → is_reason (drop 9 s) ≡ e →
    Says s (way a b c d e (Ok (answer Confirmed s)) (Ok (answer Rejected s)))
unfolding way
says_way s false b c d e ha hb hc hd he =
    unlike (no_confirms s (λ f l t. clash (front_right s) f ha)) (no_rejects s (λ f l t. clash (front_right s) f ha))
    (λ u. clash (front_right s) (front_is s u.0) ha) refl
says_way s true true true d e ha hb hc hd he = confirms (confirms_gives s ha hb hc) refl
says_way s true true false d e ha hb hc hd he =
    unlike (no_confirms s (λ f l t. clash (is_trade_number (drop 9 s)) t hc)) (no_rejects s (λ f l t. both_letters (get_or s 7 0) hb l))
    (λ u. u.1 (eq_gives (get_or s 7 0) 66 hb)) refl
says_way s true false c true true ha hb hc hd he = rejects (rejects_gives s ha hd he) refl
says_way s true false c true false ha hb hc hd he =
    unlike (no_confirms s (λ f l t. clash (eqb (get_or s 7 0) 66) l hb)) (no_rejects s (λ f l t. clash (is_reason (drop 9 s)) t he))
    (λ u. u.2 (eq_gives (get_or s 7 0) 65 hd)) refl
says_way s true false c false e ha hb hc hd he =
    unlisted (front_gives s ha, ne_gives (get_or s 7 0) 66 hb, ne_gives (get_or s 7 0) 65 hd) refl

pub answer_right : (s : List ℕ) → Says s (answer_of s)
unfolding way
answer_right s =
    says_way s (front_right s) (eqb (get_or s 7 0) 66) (is_trade_number (drop 9 s)) (eqb (get_or s 7 0) 65) (is_reason (drop 9 s)) refl refl refl refl refl
