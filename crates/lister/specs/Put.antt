-- Internal: text put on a page, as each part of the listing is.
use Rattle.std.specs.Prelude.{ℕ, ◌+◌, ◌≤◌, ◌≡◌, length}
use Rattle.format.specs.Bytes.{Bytes}
use Rattle.format.specs.Lent.{splice}
use Rattle.lister.specs.declared.Page.{Page}

-- so many bytes more fit on a page
abbrev pub Room : ℕ → Page → Type 0
Room n p = p.at + n ≤ length p.out.now

-- the text x went after what was written. No other byte changed, and the page has the same buffer
pub record Put (x : Bytes) (p q : Page) : Type 0 where
  pub fits : p.at + length x ≤ length p.out.now
  pub text : q.out.now ≡ splice p.at x p.out.now
  pub after : q.at ≡ p.at + length x
  pub same_reference : q.out.ghost_name ≡ p.out.ghost_name

-- and it is at most n bytes. The length, which follows, is said again, so that a caller finds the room that is left
abbrev pub Adds : ℕ → Bytes → Page → Page → Type 0
Adds n x p q = Put x p q × (q.at ≤ p.at + n) × (length q.out.now ≡ length p.out.now)
