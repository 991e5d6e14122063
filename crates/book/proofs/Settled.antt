-- What the promises settle: any two outcomes that one promise allows are the same. Document 01, "What the promises settle".
-- Assumes nothing.
--     settled           a promise that is an equation for one value: any two such values are the same. The law for every promise of
--                       this form, in every crate; also where a bound stands beside the equation
--     settled-both      an equation for two values at once
--     release-book-unique, take-chain-unique   so what these two leave
--     view-settled      a scratch array that a promise speaks of through `view`: its bytes are the same too
use Prim.Native.Nat.{ℕ}
use mathlib.Core.Path.{◌≡◌, ap, ◌∙◌, sym}
use mathlib.Core.List.{List}
use Rattle.words.specs.WordSet.{view}
use Rattle.book.specs.HandOver.{Uses}

pub settled : {A : Type 0} {x y z : A} → x ≡ z → y ≡ z → x ≡ y
settled p q = p ∙ sym q

pub settled-both : {A B : Type 0} {o : A × B} {x x' : A} {y y' : B} → (x, y) ≡ o → (x', y') ≡ o → (x ≡ x') × (y ≡ y')
settled-both {A} {B} p q =
    let e = p ∙ sym q in
    (ap (λ (z : A × B). z.0) e, ap (λ (z : A × B). z.1) e)

-- small state, words in use and recorded lengths
pub release-book-unique : {o : List ℕ × Uses} {t t' u u' l l' : List ℕ} → (t, (u, l)) ≡ o → (t', (u', l')) ≡ o
    → (t ≡ t') × (u ≡ u') × (l ≡ l')
release-book-unique p q =
    let e = p ∙ sym q in
    (ap (λ (z : List ℕ × Uses). z.0) e, ap (λ (z : List ℕ × Uses). z.1.0) e, ap (λ (z : List ℕ × Uses). z.1.1) e)

pub take-chain-unique : {o : Uses} {u u' l l' : List ℕ} → (u, l) ≡ o → (u', l') ≡ o → (u ≡ u') × (l ≡ l')
take-chain-unique p q = settled-both p q

pub view-settled : {x y o : List ℕ} → view x ≡ o → view y ≡ o → x ≡ y
unfolding view
view-settled p q = p ∙ sym q
