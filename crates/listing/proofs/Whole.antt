-- The listing of what was read is that of the whole input: of an input that is too long one byte more than the most says so. Assumes nothing.
use Rattle.std.proofs.Common.{◌≡◌, ℕ, ◌+◌, ◌<◌, ◌≤◌, List, [], ◌++◌, None, Some, IfSome, Result, Ok, Err, OnOk, inl, inr, arith, refl, sym, ap, ◌∙◌, subst, length, take, length-append, length-take-le, append-nil}
use Rattle.std.proofs.lemmas.Bool.{cases_lt, lt-leb}
use Rattle.std.specs.Io.KnownBytes.{Appends, Consumes, IsAtEnd}
use Rattle.std.specs.declared.option.Option.{Option}
use Rattle.rules.specs.Listing.{most_input, listing}

too-long : (xs ys : List ℕ) → most_input < length xs → most_input < length ys → listing xs ≡ listing ys
unfolding listing
too-long xs ys p q = rw (lt-leb (length xs) most_input p, lt-leb (length ys) most_input q) refl

-- what stands at the front of the input, and is all of it or one byte more than the most
listing-front : (xs front rest : List ℕ) → xs ≡ front ++ rest → (length front < most_input + 1 → rest ≡ []) → listing front ≡ listing xs
listing-front xs front rest e end =
    elim (cases_lt (length front) (most_input + 1)) [
      | inl short ↦ ap listing (sym (e ∙ ap (λ l. front ++ l) (end short) ∙ append-nil front))
      | inr long ↦
          let more : most_input < length xs = rw (e, length-append) (omega (arith, long)) in
          too-long front xs (omega (arith, long)) more
    ]

pub listing-read : {T E : Type 0} (r : Result T E) (a b o p : Option (List ℕ)) (buf : List ℕ) (n : ℕ) → n ≤ length buf → length buf ≡ most_input + 1
    → Consumes a b (take n buf) → OnOk r (n < length buf → IsAtEnd b) → Appends o p (listing (take n buf))
    → OnOk r (IfSome a (λ xs. Appends o p (listing xs)))
listing-read (Err e) a b o p buf n fits long read end printed = tt
listing-read (Ok x) None b o p buf n fits long read end printed = tt
listing-read (Ok x) (Some xs) None o p buf n fits long read end printed = absurd read
listing-read (Ok x) (Some xs) (Some ys) o p buf n fits long read end printed =
    let same : length (take n buf) ≡ n = length-take-le n buf fits in
    subst (Appends o p) (listing-front xs (take n buf) ys read (λ h. end (omega (arith, h, same, long)))) printed
