-- Numbers and codes that can be written, or cannot; numbers and codes that are not listed; and what may be left out.
use Rattle.std.proofs.Common.{◌≡◌, ℕ, ◌+◌, ◌^◌, ◌<◌, Bool, true, false, List, [], ◌∷◌, length, get_or, Some, None, Err, Option, sym, refl, ap, ◌∙◌, subst, arith}
use Rattle.notation.specs.declared.classes.Class.TheVariants.{Capital}
use Rattle.notation.specs.declared.refusals.Why.{Why}
use Rattle.std.specs.Bool.{◌==◌}
use Rattle.std.specs.List.{AllByRecursion}
use Rattle.std.specs.Option.{option_map}
use Rattle.std.proofs.lemmas.Bool.{false≢true}
use Rattle.std.proofs.lemmas.Bool.Decides.{nat_tests}
use Rattle.pieces.specs.Notation.{Notation, Of, Value, Proper, Fit, Finds, exactly, dec, opt, both, units}
use Rattle.pieces.specs.Plain.{places, plain}
use Rattle.pieces.specs.Rows.{Reads}
use Rattle.pieces.specs.declared.decimals.Scale.{Scale}
use Rattle.pieces.specs.declared.decimals.Scale.TheVariants.{Hundredths, Thousandths, TenThousandths, HundredThousandths}
use Rattle.fields.specs.Codes.{Gives, Maybe, SideOf, MarkOf}
use Rattle.fields.specs.Table.{nature_form}
use Rattle.fields.specs.Terms.{row23}
use Rattle.pieces.proofs.Commas.{decimal_lt}
use Rattle.pieces.proofs.Plains.{plain_counts, plain_proper}

-- three capitals and n units
module _ (p q : ℕ) (code : List ℕ) (n : ℕ) where
  pub coded_fits : 0 < q → n < 2 ^ 64 → length code ≡ 3 → AllByRecursion (Of Capital) code → n < 10 ^ (p + q) → Proper (both (exactly 3 Capital) (dec p q)) (code, plain q n) × ((code ≡ code) × (n ≡ units q (plain q n)))
  coded_fits some fits l a small = (((l, a), plain_proper q n some fits p small), (refl, sym (plain_counts q n some fits)))

  pub coded_cannot : (AllByRecursion (Of Capital) code → n < 10 ^ (p + q) → ⊥) → (v : List ℕ × (List ℕ × List ℕ)) → Proper (both (exactly 3 Capital) (dec p q)) v → (code ≡ v.0) × (n ≡ units q v.1) → ⊥
  coded_cannot never v h m = never (subst (AllByRecursion (Of Capital)) (sym m.0) h.0.1) (omega (arith, m.1, decimal_lt p q v.1 h.1))

-- a number that is no side's, and a code that is no mark
pub side_unlisted : (s : List ℕ) (n : ℕ) (c : Option (List ℕ)) (e : Why) → Fit nature_form s (n, c) → SideOf n (Err e) → Reads row23 s (Err e)
side_unlisted s n c e f h = subst (λ w. Reads row23 s (Err w)) (sym h.0) ((n, c), f, λ l. h.1 l.0.0 l.0.1)

pub mark_unlisted : (s : List ℕ) (n : ℕ) (c : Option (List ℕ)) (e : Why) → Fit nature_form s (n, c) → MarkOf c (Err e) → Reads row23 s (Err e)
mark_unlisted s n c e f h = subst (λ w. Reads row23 s (Err w)) (sym h.0) ((n, c), f, λ l. h.1 l.1.0 l.1.1)

pub two : (s : List ℕ) → length s ≡ 2 → s ≡ get_or s 0 0 ∷ get_or s 1 0 ∷ []
two [] e = absurd (omega arith)
two (a ∷ []) e = absurd (omega arith)
two (a ∷ b ∷ []) e = refl
two (a ∷ b ∷ x ∷ s) e = absurd (omega arith)

-- what a test of emptiness tells
pub not_empty : (s : List ℕ) (b : Bool) → b ≡ false → b ≡ (length s == 0) → s ≡ [] → ⊥
not_empty s b f e z = false≢true (sym f ∙ e ∙ ap (λ l. length l == 0) z)

pub no_length : (s : List ℕ) (b : Bool) → b ≡ true → b ≡ (length s == 0) → length s ≡ 0
no_length s b t e = grind (arith, nat_tests)

pub some_length : (s : List ℕ) (b : Bool) → b ≡ false → b ≡ (length s == 0) → length s ≡ 0 → ⊥
some_length s b f e z = grind (arith, nat_tests)

-- a piece that may be left out
pub maybe_none : (f : Notation) (s : List ℕ) → (s ≡ [] → ⊥) → Finds f s None → Finds (opt f) s None
maybe_none f s some none None k = some k.0
maybe_none f s some none (Some v) k = none v k

pub maybe_read : {T : Type 0} (Read : Option T → Type 0) (s : List ℕ) (read : Option T) (x : Option (Option T)) → Maybe s (λ found. found ≡ read) x → Read read → Maybe s Read x
maybe_read Read s read None h p = (h.0, subst Read (sym h.1) p)
maybe_read Read s read (Some None) h p = h
maybe_read Read s read (Some (Some t)) h p = (h.0, subst Read (sym h.1) p)

pub maybe_gives : {T : Type 0} (f : Notation) (g : Value f → T) (s : List ℕ) (x : Option (Option T)) → Maybe s (Gives f g s) x → Gives (opt f) (option_map g) s x
maybe_gives f g s None h = maybe_none f s h.0 h.1
maybe_gives f g s (Some None) h = (None, (h, tt), refl)
maybe_gives f g s (Some (Some t)) h = (Some h.1.0, h.1.1, ap Some h.1.2)

pub some_places : (s : Scale) → 0 < places s
some_places Hundredths = omega arith
some_places Thousandths = omega arith
some_places TenThousandths = omega arith
some_places HundredThousandths = omega arith
