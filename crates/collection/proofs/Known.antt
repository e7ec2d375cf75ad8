-- What is known of a transaction's claims with one detail more. Assumes nothing.
use Prim.Native.Nat.{ℕ, suc, ◌+◌, ◌≤◌}
use native.Mathlib.Omega.{arith}
use native.Mathlib.Nat.{zero-add, add-zero}
use mathlib.Core.Path.{◌≡◌, refl, sym, ap, ◌∙◌}
use mathlib.Core.Bool.{Bool, true, false, cond, ◌||◌, or-false}
use mathlib.Core.List.{List, [], ◌∷◌, ◌++◌, append-nil}
use lib.Dec.{eqb}
use lib.ListN.{length, get_or}
use Rattle.format.specs.Ascii.{ascii}
use Rattle.format.specs.Bytes.{Bytes, same_bytes}
use Rattle.format.proofs.Tests.{by_cases, same→eq}
use Rattle.rules.specs.Records.{only, any}
use Rattle.rules.specs.Territories.{Territory}
use Rattle.rules.specs.Collection.{is_party, is_claim, mark, is48}
use Rattle.rules.proofs.Lists.{any_last, count-last}
use Rattle.claims.specs.declared.Claim.{Claim}
use Rattle.claims.specs.Entries.{entry_of, entries_from}
use Rattle.claims.proofs.Totals.{right-48}
use Rattle.parties.specs.declared.Largest.{Largest}
use Rattle.parties.specs.Most.{Most}
use Rattle.collection.specs.declared.Tally.{Tally}
use Rattle.collection.specs.Walk.{Known}

module _ (T : List Territory) where
  -- ---- entries of details one after the other

  entries-append : (p : ℕ) (ds es : List Bytes)
      → entries_from T p (ds ++ es) ≡ entries_from T p ds ++ entries_from T (p + length (only is_party ds)) es
  entries-append p [] es = ap (λ (n : ℕ). entries_from T n es) (sym (add-zero p))
  entries-append p (d ∷ ds) es =
      by_cases (is_party d)
      (λ i.
      let on : suc p + length (only is_party ds) ≡ p + suc (length (only is_party ds)) = omega arith in
      rw (i, ← on) (entries-append (suc p) ds es))
      (λ o.
      by_cases (is_claim d)
      (λ c. rw (o, c) (ap (λ (xs : List Claim). entry_of T p d ∷ xs) (entries-append p ds es)))
      (λ c. rw (o, c) (entries-append p ds es)))

  pub entries-fewer : (p : ℕ) (ds : List Bytes) → length (entries_from T p ds) ≤ length ds
  entries-fewer p [] = omega arith
  entries-fewer p (d ∷ ds) =
      by_cases (is_party d) (λ i. rw i (omega (arith, entries-fewer (suc p) ds)))
      (λ o.
      by_cases (is_claim d)
      (λ c. rw (o, c) (omega (arith, entries-fewer p ds)))
      (λ c. rw (o, c) (omega (arith, entries-fewer p ds))))

  -- a claim with 48 is told by its entry, which has no mark
  mark-some : (m : Bytes) → (same_bytes (ascii "I") m || same_bytes (ascii "E") m) ≡ true → eqb (get_or m 0 0) 0 ≡ false
  mark-some m e =
      by_cases (same_bytes (ascii "I") m)
      (λ i. rw (sym (same→eq (ascii "I") m i)))
      (λ i. rw (sym (same→eq (ascii "E") m (rw i at e))))

  pub wrong-marked : (p : ℕ) (r : Bytes) → is_claim r ≡ true → eqb (entry_of T p r).mark 0 ≡ is48 T r
  wrong-marked p r c =
      by_cases (is48 T r) (λ e. rw e) (λ e. rw e (mark-some (mark r) (right-48 T r c e).marked))

  pub not-wrong : (r : Bytes) → is_claim r ≡ false → is48 T r ≡ false
  unfolding is48
  not-wrong r c = rw c

  -- ---- what is known

  pub known-none : (largest : Largest) → Most [] largest → Known T [] (record { party = 0; wrong = false; largest = largest })
  known-none largest most = record { party = refl; wrong = refl; most = most }

  module _ (ds : List Bytes) (tally : Tally) (known : Known T ds tally) (r : Bytes) where
    same-any : is_claim r ≡ false → tally.wrong ≡ any (is48 T) (ds ++ r ∷ [])
    same-any c = known.wrong ∙ sym (any_last (is48 T) ds r ∙ ap (λ (b : Bool). any (is48 T) ds || b) (not-wrong r c) ∙ or-false (any (is48 T) ds))

    parties-with : (b : Bool) → is_party r ≡ b → length (only is_party (ds ++ r ∷ [])) ≡ length (only is_party ds) + cond b 1 0
    parties-with b e = count-last is_party ds r ∙ ap (λ (c : Bool). length (only is_party ds) + cond c 1 0) e

    -- a party
    pub known-party : is_party r ≡ true → is_claim r ≡ false
        → Known T (ds ++ r ∷ []) (record { party = tally.party + 1; wrong = tally.wrong; largest = tally.largest })
    known-party i c =
        record {
          party = ap (λ (n : ℕ). n + 1) known.party ∙ sym (parties-with true i);
          wrong = same-any c;
          most = rw (entries-append 0 ds (r ∷ []), i, append-none) known.most;
        }
      where
        append-none : entries_from T 0 ds ++ [] ≡ entries_from T 0 ds
        append-none = append-nil (entries_from T 0 ds)

    -- a record that is neither
    pub known-other : is_party r ≡ false → is_claim r ≡ false → Known T (ds ++ r ∷ []) tally
    known-other o c =
        record {
          party = known.party ∙ sym (parties-with false o ∙ add-zero (length (only is_party ds)));
          wrong = same-any c;
          most = rw (entries-append 0 ds (r ∷ []), o, c, append-nil (entries_from T 0 ds)) known.most;
        }

    -- a claim
    pub known-claim : is_party r ≡ false → is_claim r ≡ true → (claim : Claim) → claim ≡ entry_of T tally.party r → (largest : Largest)
        → ((es : List Claim) → Most es tally.largest → Most (es ++ claim ∷ []) largest)
        → Known T (ds ++ r ∷ []) (record { party = tally.party; wrong = tally.wrong || eqb claim.mark 0; largest = largest })
    known-claim o c claim is largest with_it =
        let party : 0 + length (only is_party ds) ≡ tally.party = zero-add (length (only is_party ds)) ∙ sym known.party in
        record {
          party = known.party ∙ sym (parties-with false o ∙ add-zero (length (only is_party ds)));
          wrong =
              ap (λ (b : Bool). b || eqb claim.mark 0) known.wrong
              ∙ ap (λ (b : Bool). any (is48 T) ds || b) (ap (λ (e : Claim). eqb e.mark 0) is ∙ wrong-marked tally.party r c)
              ∙ sym (any_last (is48 T) ds r);
          most = rw (entries-append 0 ds (r ∷ []), o, c, party, ← is) (with_it (entries_from T 0 ds) known.most);
        }
