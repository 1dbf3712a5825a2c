-- What is written of a trade reads back, and nothing else is written of it.
use Rattle.std.proofs.Common.{◌≡◌, ℕ, ◌+◌, ◌≤◌, Bool, true, false, cond, ◌&&◌, eqb, List, [], ◌∷◌, ◌++◌, length, take, drop, Some, None, Ok, Err, codes, Option, Result, sym, refl, ap, ◌∙◌, subst, arith, eq-eqb}
use Rattle.std.proofs.ByRecursion.{All-get_or}
use Rattle.std.proofs.lemmas.List.{append_assoc, length-append, take_at}
use Rattle.std.proofs.lemmas.Bool.{false≢true}
use Rattle.notation.specs.declared.refusals.Refusal.{Refusal}
use Rattle.notation.specs.declared.refusals.Why.{Why}
use Rattle.pieces.specs.Rows.{Judged}
use Rattle.pieces.proofs.Bounds.{most, short, clean, no_return, Unbroken}
use Rattle.pieces.proofs.Laws.{judged_back, written_reads, judged_sole}
use Rattle.fields.proofs.Lawfuls.{nature_judged}
use Rattle.fields.proofs.Rows.{coded_fits}
use Rattle.trade.specs.declared.rows.Kind.{Kind}
use Rattle.trade.specs.declared.rows.Kind.TheVariants.{Nature as KNature, Detail as KDetail, Quantity as KQuantity, Security as KSecurity, Price as KPrice, Parties as KParties, Rebate as KRebate, Brokerage as KBrokerage, Charges as KCharges, Note as KNote, Rate as KRate}
use Rattle.trade.specs.declared.rows.Line.{Line}
use Rattle.trade.specs.declared.writing.WriteFault.{WriteFault}
use Rattle.trade.specs.declared.writing.WriteFault.TheVariants.{Contents, Short}
use Rattle.trade.specs.Deals.{Deal, blank, label, Meaning, row_of, get, put, text, table}
use Rattle.trade.specs.Texts.{Text, Step, lacks, passes, endless, faulty, stands, Answers}
use Rattle.trade.specs.Writing.{line, written, whole, good, bad, JudgedField, Checked, Wrote}
use Rattle.trade.specs.Laws.{OneForm, ReadsBack, OneJudgement, BackAsWritten, RefusedIfMeaningless}
use Rattle.trade.proofs.Unique.{lawful, one_answer}
use Rattle.walk.specs.Lines.{NoBreak}
use Rattle.walk.specs.Walk.{Absent}

differ : {A : Type 0} → ◌≡◌ {A = ℕ} 0 1 → A
differ e = absurd (omega arith)

-- a field that is absent, or can be written
abbrev pub Fine : (k : Kind) → Option (Meaning k) → Type 0
Fine k None = Unit {0}
Fine k (Some v) = Judged (row_of k) v None

abbrev pub Fines : Deal → Type 0
Fines d = Fine KNature (get KNature d) × Fine KDetail (get KDetail d) × Fine KQuantity (get KQuantity d) × Fine KSecurity (get KSecurity d) × Fine KPrice (get KPrice d) × Fine KParties (get KParties d) × Fine KRebate (get KRebate d) × Fine KBrokerage (get KBrokerage d) × Fine KCharges (get KCharges d) × Fine KNote (get KNote d) × Fine KRate (get KRate d)

fine_put : (k : Kind) (v : Meaning k) (d : Deal) → Fine k (Some v) → Fines d → Fines (put k v d)
fine_put KNature v d f h = (f, h.1, h.2, h.3, h.4, h.5, h.6, h.7, h.8, h.9, h.10)
fine_put KDetail v d f h = (h.0, f, h.2, h.3, h.4, h.5, h.6, h.7, h.8, h.9, h.10)
fine_put KQuantity v d f h = (h.0, h.1, f, h.3, h.4, h.5, h.6, h.7, h.8, h.9, h.10)
fine_put KSecurity v d f h = (h.0, h.1, h.2, f, h.4, h.5, h.6, h.7, h.8, h.9, h.10)
fine_put KPrice v d f h = (h.0, h.1, h.2, h.3, f, h.5, h.6, h.7, h.8, h.9, h.10)
fine_put KParties v d f h = (h.0, h.1, h.2, h.3, h.4, f, h.6, h.7, h.8, h.9, h.10)
fine_put KRebate v d f h = (h.0, h.1, h.2, h.3, h.4, h.5, f, h.7, h.8, h.9, h.10)
fine_put KBrokerage v d f h = (h.0, h.1, h.2, h.3, h.4, h.5, h.6, f, h.8, h.9, h.10)
fine_put KCharges v d f h = (h.0, h.1, h.2, h.3, h.4, h.5, h.6, h.7, f, h.9, h.10)
fine_put KNote v d f h = (h.0, h.1, h.2, h.3, h.4, h.5, h.6, h.7, h.8, f, h.10)
fine_put KRate v d f h = (h.0, h.1, h.2, h.3, h.4, h.5, h.6, h.7, h.8, h.9, f)

fine_step : (k : Kind) (must : Bool) (next : Deal → List ℕ → ℕ → Result Deal Refusal → Type 0) → ((d e : Deal) (s : List ℕ) (at : ℕ) → next d s at (Ok e) → Fines d → Fines e)
    → (d e : Deal) (s : List ℕ) (at : ℕ) → Step k must next d s at (Ok e) → Fines d → Fines e
fine_step k must next go d e s at (lacks a b z) h = differ (let o : ◌≡◌ {A = ℕ} 0 1 = cc in o)
fine_step k must next go d e s at (passes a b n) h = go d e s at n h
fine_step k must next go d e s at (endless w a n z) h = differ (let o : ◌≡◌ {A = ℕ} 0 1 = cc in o)
fine_step k must next go d e s at (faulty c rest y a x z) h = differ (let o : ◌≡◌ {A = ℕ} 0 1 = cc in o)
fine_step k must next go d e s at (stands c rest v a x n) h = go (put k v d) e rest _ n (fine_put k v d (judged_back (row_of k) (lawful k) c v x) h)

fine_text : (rows : List Line) (d e : Deal) (s : List ℕ) (at : ℕ) → Text rows d s at (Ok e) → Fines d → Fines e
fine_text [] d e s at t h = subst Fines (sym t.1) h
fine_text (row ∷ rows) d e s at t h = fine_step row.kind row.required (Text rows) (fine_text rows) d e s at t h

-- a trade without what it has for a kind
abbrev clear : Kind → Deal → Deal
clear KNature d = record { nature = blank.nature; detail = d.detail; quantity = d.quantity; security = d.security; price = d.price; parties = d.parties; rebate = d.rebate; brokerage = d.brokerage; charges = d.charges; note = d.note; rate = d.rate }
clear KDetail d = record { nature = d.nature; detail = blank.detail; quantity = d.quantity; security = d.security; price = d.price; parties = d.parties; rebate = d.rebate; brokerage = d.brokerage; charges = d.charges; note = d.note; rate = d.rate }
clear KQuantity d = record { nature = d.nature; detail = d.detail; quantity = blank.quantity; security = d.security; price = d.price; parties = d.parties; rebate = d.rebate; brokerage = d.brokerage; charges = d.charges; note = d.note; rate = d.rate }
clear KSecurity d = record { nature = d.nature; detail = d.detail; quantity = d.quantity; security = blank.security; price = d.price; parties = d.parties; rebate = d.rebate; brokerage = d.brokerage; charges = d.charges; note = d.note; rate = d.rate }
clear KPrice d = record { nature = d.nature; detail = d.detail; quantity = d.quantity; security = d.security; price = blank.price; parties = d.parties; rebate = d.rebate; brokerage = d.brokerage; charges = d.charges; note = d.note; rate = d.rate }
clear KParties d = record { nature = d.nature; detail = d.detail; quantity = d.quantity; security = d.security; price = d.price; parties = blank.parties; rebate = d.rebate; brokerage = d.brokerage; charges = d.charges; note = d.note; rate = d.rate }
clear KRebate d = record { nature = d.nature; detail = d.detail; quantity = d.quantity; security = d.security; price = d.price; parties = d.parties; rebate = None; brokerage = d.brokerage; charges = d.charges; note = d.note; rate = d.rate }
clear KBrokerage d = record { nature = d.nature; detail = d.detail; quantity = d.quantity; security = d.security; price = d.price; parties = d.parties; rebate = d.rebate; brokerage = None; charges = d.charges; note = d.note; rate = d.rate }
clear KCharges d = record { nature = d.nature; detail = d.detail; quantity = d.quantity; security = d.security; price = d.price; parties = d.parties; rebate = d.rebate; brokerage = d.brokerage; charges = None; note = d.note; rate = d.rate }
clear KNote d = record { nature = d.nature; detail = d.detail; quantity = d.quantity; security = d.security; price = d.price; parties = d.parties; rebate = d.rebate; brokerage = d.brokerage; charges = d.charges; note = None; rate = d.rate }
clear KRate d = record { nature = d.nature; detail = d.detail; quantity = d.quantity; security = d.security; price = d.price; parties = d.parties; rebate = d.rebate; brokerage = d.brokerage; charges = d.charges; note = d.note; rate = None }

put_clear : (k : Kind) (v : Meaning k) (d : Deal) → get k d ≡ Some v → put k v (clear k d) ≡ d
put_clear KNature v d e = let g : v ≡ d.nature = cc in λ i. record { nature = g i; detail = d.detail; quantity = d.quantity; security = d.security; price = d.price; parties = d.parties; rebate = d.rebate; brokerage = d.brokerage; charges = d.charges; note = d.note; rate = d.rate }
put_clear KDetail v d e = let g : v ≡ d.detail = cc in λ i. record { nature = d.nature; detail = g i; quantity = d.quantity; security = d.security; price = d.price; parties = d.parties; rebate = d.rebate; brokerage = d.brokerage; charges = d.charges; note = d.note; rate = d.rate }
put_clear KQuantity v d e = let g : v ≡ d.quantity = cc in λ i. record { nature = d.nature; detail = d.detail; quantity = g i; security = d.security; price = d.price; parties = d.parties; rebate = d.rebate; brokerage = d.brokerage; charges = d.charges; note = d.note; rate = d.rate }
put_clear KSecurity v d e = let g : v ≡ d.security = cc in λ i. record { nature = d.nature; detail = d.detail; quantity = d.quantity; security = g i; price = d.price; parties = d.parties; rebate = d.rebate; brokerage = d.brokerage; charges = d.charges; note = d.note; rate = d.rate }
put_clear KPrice v d e = let g : v ≡ d.price = cc in λ i. record { nature = d.nature; detail = d.detail; quantity = d.quantity; security = d.security; price = g i; parties = d.parties; rebate = d.rebate; brokerage = d.brokerage; charges = d.charges; note = d.note; rate = d.rate }
put_clear KParties v d e = let g : v ≡ d.parties = cc in λ i. record { nature = d.nature; detail = d.detail; quantity = d.quantity; security = d.security; price = d.price; parties = g i; rebate = d.rebate; brokerage = d.brokerage; charges = d.charges; note = d.note; rate = d.rate }
put_clear KRebate v d e = let g : Some v ≡ d.rebate = sym e in λ i. record { nature = d.nature; detail = d.detail; quantity = d.quantity; security = d.security; price = d.price; parties = d.parties; rebate = g i; brokerage = d.brokerage; charges = d.charges; note = d.note; rate = d.rate }
put_clear KBrokerage v d e = let g : Some v ≡ d.brokerage = sym e in λ i. record { nature = d.nature; detail = d.detail; quantity = d.quantity; security = d.security; price = d.price; parties = d.parties; rebate = d.rebate; brokerage = g i; charges = d.charges; note = d.note; rate = d.rate }
put_clear KCharges v d e = let g : Some v ≡ d.charges = sym e in λ i. record { nature = d.nature; detail = d.detail; quantity = d.quantity; security = d.security; price = d.price; parties = d.parties; rebate = d.rebate; brokerage = d.brokerage; charges = g i; note = d.note; rate = d.rate }
put_clear KNote v d e = let g : Some v ≡ d.note = sym e in λ i. record { nature = d.nature; detail = d.detail; quantity = d.quantity; security = d.security; price = d.price; parties = d.parties; rebate = d.rebate; brokerage = d.brokerage; charges = d.charges; note = g i; rate = d.rate }
put_clear KRate v d e = let g : Some v ≡ d.rate = sym e in λ i. record { nature = d.nature; detail = d.detail; quantity = d.quantity; security = d.security; price = d.price; parties = d.parties; rebate = d.rebate; brokerage = d.brokerage; charges = d.charges; note = d.note; rate = g i }

clear_none : (k : Kind) (d : Deal) → get k d ≡ None → clear k d ≡ d
clear_none KNature d e = differ (let o : ◌≡◌ {A = ℕ} 0 1 = cc in o)
clear_none KDetail d e = differ (let o : ◌≡◌ {A = ℕ} 0 1 = cc in o)
clear_none KQuantity d e = differ (let o : ◌≡◌ {A = ℕ} 0 1 = cc in o)
clear_none KSecurity d e = differ (let o : ◌≡◌ {A = ℕ} 0 1 = cc in o)
clear_none KPrice d e = differ (let o : ◌≡◌ {A = ℕ} 0 1 = cc in o)
clear_none KParties d e = differ (let o : ◌≡◌ {A = ℕ} 0 1 = cc in o)
clear_none KRebate d e = let g : None ≡ d.rebate = sym e in λ i. record { nature = d.nature; detail = d.detail; quantity = d.quantity; security = d.security; price = d.price; parties = d.parties; rebate = g i; brokerage = d.brokerage; charges = d.charges; note = d.note; rate = d.rate }
clear_none KBrokerage d e = let g : None ≡ d.brokerage = sym e in λ i. record { nature = d.nature; detail = d.detail; quantity = d.quantity; security = d.security; price = d.price; parties = d.parties; rebate = d.rebate; brokerage = g i; charges = d.charges; note = d.note; rate = d.rate }
clear_none KCharges d e = let g : None ≡ d.charges = sym e in λ i. record { nature = d.nature; detail = d.detail; quantity = d.quantity; security = d.security; price = d.price; parties = d.parties; rebate = d.rebate; brokerage = d.brokerage; charges = g i; note = d.note; rate = d.rate }
clear_none KNote d e = let g : None ≡ d.note = sym e in λ i. record { nature = d.nature; detail = d.detail; quantity = d.quantity; security = d.security; price = d.price; parties = d.parties; rebate = d.rebate; brokerage = d.brokerage; charges = d.charges; note = g i; rate = d.rate }
clear_none KRate d e = let g : None ≡ d.rate = sym e in λ i. record { nature = d.nature; detail = d.detail; quantity = d.quantity; security = d.security; price = d.price; parties = d.parties; rebate = d.rebate; brokerage = d.brokerage; charges = d.charges; note = d.note; rate = g i }

-- no text begins with both labels
abbrev clash : List ℕ → List ℕ → Bool
clash [] m = true
clash (x ∷ l) [] = true
clash (x ∷ l) (y ∷ m) = eqb x y && clash l m

clash_none : (l m w w' : List ℕ) → clash l m ≡ false → l ++ w ≡ m ++ w' → ⊥
clash_none [] m w w' c e = false≢true (sym c)
clash_none (x ∷ l) [] w w' c e = false≢true (sym c)
clash_none (x ∷ l) (y ∷ m) w w' c e =
    let p : x ≡ y = cc in
    let t : l ++ w ≡ m ++ w' = cc in
    let q : eqb x y ≡ true = eq-eqb x y p in
    clash_none l m w w' (subst (λ b. (b && clash l m) ≡ false) q c) t

abbrev apart : Kind → List Line → Bool
apart k [] = true
apart k (row ∷ rows) = cond (clash (label k) (label row.kind)) false (apart k rows)

some_label : (k : Kind) (w : List ℕ) → [] ≡ label k ++ w → ⊥
some_label KNature w e = differ (let o : ◌≡◌ {A = ℕ} 0 1 = cc in o)
some_label KDetail w e = differ (let o : ◌≡◌ {A = ℕ} 0 1 = cc in o)
some_label KQuantity w e = differ (let o : ◌≡◌ {A = ℕ} 0 1 = cc in o)
some_label KSecurity w e = differ (let o : ◌≡◌ {A = ℕ} 0 1 = cc in o)
some_label KPrice w e = differ (let o : ◌≡◌ {A = ℕ} 0 1 = cc in o)
some_label KParties w e = differ (let o : ◌≡◌ {A = ℕ} 0 1 = cc in o)
some_label KRebate w e = differ (let o : ◌≡◌ {A = ℕ} 0 1 = cc in o)
some_label KBrokerage w e = differ (let o : ◌≡◌ {A = ℕ} 0 1 = cc in o)
some_label KCharges w e = differ (let o : ◌≡◌ {A = ℕ} 0 1 = cc in o)
some_label KNote w e = differ (let o : ◌≡◌ {A = ℕ} 0 1 = cc in o)
some_label KRate w e = differ (let o : ◌≡◌ {A = ℕ} 0 1 = cc in o)

absent : (k : Kind) (rows : List Line) (d : Deal) → apart k rows ≡ true → Absent (label k) (written rows d)
absent k [] d a w e = some_label k w e
absent k (row ∷ rows) d a w e = go (clash (label k) (label row.kind)) refl (get row.kind d) (λ a'. absent k rows d a' w) e
  where
    go : (b : Bool) → clash (label k) (label row.kind) ≡ b → (o : Option (Meaning row.kind)) → (apart k rows ≡ true → written rows d ≡ label k ++ w → ⊥) → line row.kind o ++ written rows d ≡ label k ++ w → ⊥
    go true c o later e' = false≢true (subst (λ b. cond b false (apart k rows) ≡ true) c a)
    go false c None later e' = later (subst (λ b. cond b false (apart k rows) ≡ true) c a) e'
    go false c (Some v) later e' = clash_none (label k) (label row.kind) w _ c (sym e' ∙ append_assoc (label row.kind) _ (written rows d))

-- no carriage return stands in what is written
is_clean : (k : Kind) → clean (row_of k).notation ≡ true
is_clean KNature = refl
is_clean KDetail = refl
is_clean KQuantity = refl
is_clean KSecurity = refl
is_clean KPrice = refl
is_clean KParties = refl
is_clean KRebate = refl
is_clean KBrokerage = refl
is_clean KCharges = refl
is_clean KNote = refl
is_clean KRate = refl

text_unbroken : (k : Kind) (v : Meaning k) → Judged (row_of k) v None → NoBreak (text k v)
text_unbroken k v h i l a b = All-get_or Unbroken (text k v) i 0 (omega arith) (no_return (row_of k).notation (is_clean k) ((row_of k).pieces v) h.0.0) a

-- one row of what is written
module _ (row : Line) (rows : List Line) (d x : Deal)
    (same : get row.kind x ≡ get row.kind d)
    (left_out : get row.kind d ≡ None → row.required ≡ false)
    (free : apart row.kind rows ≡ true)
    (fine : Fine row.kind (get row.kind d))
    (rest : (at : ℕ) → Text rows x (written rows d) at (Ok d)) where
  row_back : (at : ℕ) → Text (row ∷ rows) (clear row.kind x) (written (row ∷ rows) d) at (Ok d)
  row_back at = go (get row.kind d) refl
    where
      go : (o : Option (Meaning row.kind)) → get row.kind d ≡ o → Text (row ∷ rows) (clear row.kind x) (line row.kind o ++ written rows d) at (Ok d)
      go None e = passes (absent row.kind rows d free) (left_out e) (subst (λ y. Text rows y (written rows d) at (Ok d)) (sym (clear_none row.kind x (same ∙ e))) (rest at))
      go (Some v) e =
          let f : Fine row.kind (Some v) = subst (Fine row.kind) e fine in
          let c : List ℕ = text row.kind v in
          let l : List ℕ = label row.kind in
          stands c (written rows d) v
          (c ++ 13 ∷ 10 ∷ written rows d, append_assoc l (c ++ 13 ∷ 10 ∷ []) (written rows d) ∙ ap (λ z. l ++ z) (append_assoc c (13 ∷ 10 ∷ []) (written rows d)), (refl, text_unbroken row.kind v f))
          (written_reads (row_of row.kind) v f)
          (subst (λ y. Text rows y (written rows d) (at + length l + (length c + 2)) (Ok d)) (sym (put_clear row.kind v x (same ∙ e))) (rest _))

abbrev must : Kind → Line
must k = record { kind = k; required = true }

abbrev may : Kind → Line
may k = record { kind = k; required = false }

written_back : (d : Deal) → Fines d → Answers (whole d) (Ok d)
written_back d f =
    let d9 = clear KRate d in
    let d8 = clear KNote d9 in
    let d7 = clear KCharges d8 in
    let d6 = clear KBrokerage d7 in
    let d5 = clear KRebate d6 in
    let d4 = clear KParties d5 in
    let d3 = clear KPrice d4 in
    let d2 = clear KSecurity d3 in
    let d1 = clear KQuantity d2 in
    let d0 = clear KDetail d1 in
    row_back (must KNature) (must KDetail ∷ must KQuantity ∷ must KSecurity ∷ must KPrice ∷ must KParties ∷ may KRebate ∷ may KBrokerage ∷ may KCharges ∷ may KNote ∷ may KRate ∷ []) d d0 refl (λ e. absurd (none_some e)) refl f.0
    (row_back (must KDetail) (must KQuantity ∷ must KSecurity ∷ must KPrice ∷ must KParties ∷ may KRebate ∷ may KBrokerage ∷ may KCharges ∷ may KNote ∷ may KRate ∷ []) d d1 refl (λ e. absurd (none_some e)) refl f.1
    (row_back (must KQuantity) (must KSecurity ∷ must KPrice ∷ must KParties ∷ may KRebate ∷ may KBrokerage ∷ may KCharges ∷ may KNote ∷ may KRate ∷ []) d d2 refl (λ e. absurd (none_some e)) refl f.2
    (row_back (must KSecurity) (must KPrice ∷ must KParties ∷ may KRebate ∷ may KBrokerage ∷ may KCharges ∷ may KNote ∷ may KRate ∷ []) d d3 refl (λ e. absurd (none_some e)) refl f.3
    (row_back (must KPrice) (must KParties ∷ may KRebate ∷ may KBrokerage ∷ may KCharges ∷ may KNote ∷ may KRate ∷ []) d d4 refl (λ e. absurd (none_some e)) refl f.4
    (row_back (must KParties) (may KRebate ∷ may KBrokerage ∷ may KCharges ∷ may KNote ∷ may KRate ∷ []) d d5 refl (λ e. absurd (none_some e)) refl f.5
    (row_back (may KRebate) (may KBrokerage ∷ may KCharges ∷ may KNote ∷ may KRate ∷ []) d d6 refl (λ e. refl) refl f.6
    (row_back (may KBrokerage) (may KCharges ∷ may KNote ∷ may KRate ∷ []) d d7 refl (λ e. refl) refl f.7
    (row_back (may KCharges) (may KNote ∷ may KRate ∷ []) d d8 refl (λ e. refl) refl f.8
    (row_back (may KNote) (may KRate ∷ []) d d9 refl (λ e. refl) refl f.9
    (row_back (may KRate) [] d d refl (λ e. refl) refl f.10
    (λ at. (refl, refl)))))))))))) 0
  where
    none_some : {A : Type 0} {x : A} → ◌≡◌ {A = Option A} (Some x) None → ⊥
    none_some e = differ (let o : ◌≡◌ {A = ℕ} 0 1 = cc in o)

blank_fine : Fines blank
blank_fine =
    let c = coded_fits 9 3 (codes "AAA") 0 (omega arith) (omega arith) refl (refl, (refl, (refl, tt))) (omega arith) in
    let p = coded_fits 6 4 (codes "AAA") 0 (omega arith) (omega arith) refl (refl, (refl, (refl, tt))) (omega arith) in (
      nature_judged blank.nature,
      blank_detail,
      (c, tt, tt, tt),
      (((refl, (refl, (refl, (refl, (refl, (refl, (refl, (refl, (refl, (refl, (refl, (refl, (refl, tt))))))))))))), refl), tt, tt, tt),
      (p, tt, tt, tt),
      (((omega arith, omega arith), (refl, refl)), tt, tt, tt),
      tt,
      tt,
      tt,
      tt,
      tt,
    )
  where
    blank_detail : Judged (row_of KDetail) blank.detail None
    blank_detail = (
      (
        (omega arith, (tt, (tt, (tt, (tt, (tt, (tt, tt))))))),
        record { place_as = refl; traded_as = refl; time_as = refl; closing_as = refl; settlement_as = tt; mark_as = refl; interest_as = refl; discount_as = refl },
      ),
      record { place_listed = (blank.detail.place, refl); settlement_listed = tt; mark_listed = (false, refl) },
      record { traded_exists = tt; time_exists = tt; closing_exists = tt; value_date_exists = tt },
      tt,
    )

read_fine : (s : List ℕ) (d : Deal) → Answers s (Ok d) → Fines d
read_fine s d h = fine_text table blank d s 0 h blank_fine

-- what can be written is fine, and the other way round
first_good : (k : Kind) (o : Option (Meaning k)) (later : Option Why → Type 0) → JudgedField k o later None → Fine k o × later None
first_good k None later h = (tt, h)
first_good k (Some v) later (good g c) = (g, c)
first_good k (Some v) later (bad e g p) = differ (let o : ◌≡◌ {A = ℕ} 0 1 = cc in o)

pub checked_fine : (d : Deal) → Checked table d None → Fines d
checked_fine d h =
    let a0 = first_good KNature (get KNature d) _ h in
    let a1 = first_good KDetail (get KDetail d) _ a0.1 in
    let a2 = first_good KQuantity (get KQuantity d) _ a1.1 in
    let a3 = first_good KSecurity (get KSecurity d) _ a2.1 in
    let a4 = first_good KPrice (get KPrice d) _ a3.1 in
    let a5 = first_good KParties (get KParties d) _ a4.1 in
    let a6 = first_good KRebate (get KRebate d) _ a5.1 in
    let a7 = first_good KBrokerage (get KBrokerage d) _ a6.1 in
    let a8 = first_good KCharges (get KCharges d) _ a7.1 in
    let a9 = first_good KNote (get KNote d) _ a8.1 in
    let a10 = first_good KRate (get KRate d) _ a9.1 in
    (a0.0, a1.0, a2.0, a3.0, a4.0, a5.0, a6.0, a7.0, a8.0, a9.0, a10.0)

field_good : (k : Kind) (o : Option (Meaning k)) (later : Option Why → Type 0) → Fine k o → later None → JudgedField k o later None
field_good k None later f h = h
field_good k (Some v) later f h = good f h

fine_checked : (d : Deal) → Fines d → Checked table d None
fine_checked d f =
    field_good KNature (get KNature d) _ f.0 (field_good KDetail (get KDetail d) _ f.1 (field_good KQuantity (get KQuantity d) _ f.2 (field_good KSecurity (get KSecurity d) _ f.3 (field_good KPrice (get KPrice d) _ f.4 (field_good KParties (get KParties d) _ f.5 (field_good KRebate (get KRebate d) _ f.6 (field_good KBrokerage (get KBrokerage d) _ f.7 (field_good KCharges (get KCharges d) _ f.8 (field_good KNote (get KNote d) _ f.9 (field_good KRate (get KRate d) _ f.10 (refl)))))))))))

pub reads_back : ReadsBack
reads_back s d h = let f = read_fine s d h in (fine_checked d f, written_back d f)

pub one_form : OneForm
one_form s t d e h k = (λ p. ap whole p, λ p. same (one_answer (whole d) (Ok d) (Ok e) (reads_back s d h).1 (subst (λ x. Answers x (Ok e)) (sym p) (reads_back t e k).1)))
  where
    same : ◌≡◌ {A = Result Deal Refusal} (Ok d) (Ok e) → d ≡ e
    same q = cc

field_sole : (k : Kind) (o : Option (Meaning k)) (later : Option Why → Type 0) → ((r q : Option Why) → later r → later q → r ≡ q) → (r q : Option Why) → JudgedField k o later r → JudgedField k o later q → r ≡ q
field_sole k None later s r q h g = s r q h g
field_sole k (Some v) later s r q (good a h) (good b g) = s r q h g
field_sole k (Some v) later s r q (good a h) (bad e b p) =
    let z : ◌≡◌ {A = Option Why} None (Some e) = judged_sole (row_of k) v None (Some e) a b in differ (let o : ◌≡◌ {A = ℕ} 0 1 = cc in o)
field_sole k (Some v) later s r q (bad e b p) (good a h) =
    let z : ◌≡◌ {A = Option Why} None (Some e) = judged_sole (row_of k) v None (Some e) a b in differ (let o : ◌≡◌ {A = ℕ} 0 1 = cc in o)
field_sole k (Some v) later s r q (bad e b p) (bad e' b' p') = p ∙ judged_sole (row_of k) v (Some e) (Some e') b b' ∙ sym p'

checked_sole : (rows : List Line) (d : Deal) (r q : Option Why) → Checked rows d r → Checked rows d q → r ≡ q
checked_sole [] d r q h g = h ∙ sym g
checked_sole (row ∷ rows) d r q h g = field_sole row.kind (get row.kind d) (Checked rows d) (checked_sole rows d) r q h g

pub one_judgement : OneJudgement
one_judgement d r q h g = checked_sole table d r q h g

-- how long a text is at most
line_short : (k : Kind) (o : Option (Meaning k)) → Fine k o → length (line k o) ≤ length (label k) + (most (row_of k).notation + 2)
line_short k None f = omega arith
line_short k (Some v) f = omega (arith, length-append (label k) (text k v ++ 13 ∷ 10 ∷ []), length-append (text k v) (13 ∷ 10 ∷ []), short (row_of k).notation ((row_of k).pieces v) f.0.0)

pub whole_short : (d : Deal) → Fines d → length (whole d) ≤ 320
whole_short d f =
    let s0 : length (line KNature (get KNature d)) ≤ 12 = omega (arith, line_short KNature (get KNature d) f.0) in
    let s1 : length (line KDetail (get KDetail d)) ≤ 45 = omega (arith, line_short KDetail (get KDetail d) f.1) in
    let s2 : length (line KQuantity (get KQuantity d)) ≤ 23 = omega (arith, line_short KQuantity (get KQuantity d) f.2) in
    let s3 : length (line KSecurity (get KSecurity d)) ≤ 24 = omega (arith, line_short KSecurity (get KSecurity d) f.3) in
    let s4 : length (line KPrice (get KPrice d)) ≤ 21 = omega (arith, line_short KPrice (get KPrice d) f.4) in
    let s5 : length (line KParties (get KParties d)) ≤ 16 = omega (arith, line_short KParties (get KParties d) f.5) in
    let s6 : length (line KRebate (get KRebate d)) ≤ 26 = omega (arith, line_short KRebate (get KRebate d) f.6) in
    let s7 : length (line KBrokerage (get KBrokerage d)) ≤ 22 = omega (arith, line_short KBrokerage (get KBrokerage d) f.7) in
    let s8 : length (line KCharges (get KCharges d)) ≤ 35 = omega (arith, line_short KCharges (get KCharges d) f.8) in
    let s9 : length (line KNote (get KNote d)) ≤ 36 = omega (arith, line_short KNote (get KNote d) f.9) in
    let s10 : length (line KRate (get KRate d)) ≤ 17 = omega (arith, line_short KRate (get KRate d) f.10) in
    let w0 = length-append (line KNature (get KNature d)) (written (must KDetail ∷ must KQuantity ∷ must KSecurity ∷ must KPrice ∷ must KParties ∷ may KRebate ∷ may KBrokerage ∷ may KCharges ∷ may KNote ∷ may KRate ∷ []) d) in
    let w1 = length-append (line KDetail (get KDetail d)) (written (must KQuantity ∷ must KSecurity ∷ must KPrice ∷ must KParties ∷ may KRebate ∷ may KBrokerage ∷ may KCharges ∷ may KNote ∷ may KRate ∷ []) d) in
    let w2 = length-append (line KQuantity (get KQuantity d)) (written (must KSecurity ∷ must KPrice ∷ must KParties ∷ may KRebate ∷ may KBrokerage ∷ may KCharges ∷ may KNote ∷ may KRate ∷ []) d) in
    let w3 = length-append (line KSecurity (get KSecurity d)) (written (must KPrice ∷ must KParties ∷ may KRebate ∷ may KBrokerage ∷ may KCharges ∷ may KNote ∷ may KRate ∷ []) d) in
    let w4 = length-append (line KPrice (get KPrice d)) (written (must KParties ∷ may KRebate ∷ may KBrokerage ∷ may KCharges ∷ may KNote ∷ may KRate ∷ []) d) in
    let w5 = length-append (line KParties (get KParties d)) (written (may KRebate ∷ may KBrokerage ∷ may KCharges ∷ may KNote ∷ may KRate ∷ []) d) in
    let w6 = length-append (line KRebate (get KRebate d)) (written (may KBrokerage ∷ may KCharges ∷ may KNote ∷ may KRate ∷ []) d) in
    let w7 = length-append (line KBrokerage (get KBrokerage d)) (written (may KCharges ∷ may KNote ∷ may KRate ∷ []) d) in
    let w8 = length-append (line KCharges (get KCharges d)) (written (may KNote ∷ may KRate ∷ []) d) in
    let w9 = length-append (line KNote (get KNote d)) (written (may KRate ∷ []) d) in
    let w10 = length-append (line KRate (get KRate d)) (written [] d) in
    omega arith

-- what was written, by its two readings
pub back_as_written : (d : Deal) (before after : List ℕ) (r : Result ℕ WriteFault) → Wrote table d before after r → BackAsWritten d after r
back_as_written d before after (Ok n) h =
    subst (λ s. Answers s (Ok d)) (sym (ap (take n) h.3 ∙ take_at (whole d) (drop n before) n (sym h.1))) (written_back d (checked_fine d h.0))
back_as_written d before after (Err (Contents f)) h = tt
back_as_written d before after (Err Short) h = tt

pub refused_if_meaningless : (d : Deal) (before after : List ℕ) (r : Result ℕ WriteFault) → Wrote table d before after r → RefusedIfMeaningless d r
refused_if_meaningless d before after (Ok n) h = (whole d, written_back d (checked_fine d h.0))
refused_if_meaningless d before after (Err (Contents f)) h = λ s k.
    let z : ◌≡◌ {A = Option Why} None (Some f.why) = one_judgement d None (Some f.why) (reads_back s d k).0 h.0 in
    differ (let o : ◌≡◌ {A = ℕ} 0 1 = cc in o)
refused_if_meaningless d before after (Err Short) h = (whole d, written_back d (checked_fine d h.0))
