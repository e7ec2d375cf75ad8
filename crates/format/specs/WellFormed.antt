-- Which contents are right: lists never empty, and each record right by 4, 6, 7 and 10, held without its numbers.
use Rattle.std.specs.Prelude.{◌+◌, ◌≡◌, List, [], ◌∷◌, ◌++◌, map, take, length, T}
use Rattle.format.specs.Bytes.{Bytes, All, Text, put}
use Rattle.format.specs.Doc.{Doc, Group, Transaction}
use Rattle.format.specs.Table.{Class, hdr, grh, head, detail, grt, trl, known, start, width, Table}

-- a record held without its numbers, with the class that its place asks for
pub data Item : Type 0 where
  item : Class → Bytes → Item

-- ---- all records of a content, each with the class that its place asks for (7)

abbrev pub items_t : List Transaction → List Item
items_t [] = []
items_t (x ∷ xs) = item head x.header ∷ map (item detail) x.details ++ items_t xs

abbrev pub items_g : List Group → List Item
items_g [] = []
items_g (g ∷ gs) = item grh g.opening ∷ items_t g.transactions ++ item grt g.closing ∷ items_g gs

unfoldable pub items : Doc → List Item
items d = item hdr d.header ∷ items_g d.groups ++ item trl d.trailer ∷ []

-- ---- what is asked of them

abbrev pub NotEmpty : {A : Type 0} → List A → Type 0
NotEmpty [] = ⊥
NotEmpty (x ∷ xs) = Unit {0}

module _ (𝕋 : Table) where
  -- text (4), of a known type of that class and as long as its type with the number positions cut out (6)
  pub record Right (c : Class) (s : Bytes) : Type 0 where
    pub text : Text s
    pub type : 𝕋.class (take 3 s) ≡ c
    pub type_known : T (known c)
    pub size : length s + width c ≡ 𝕋.len (take 3 s)

  abbrev pub Held : Item → Type 0
  Held (item c s) = Right c s

  pub record WellFormed (d : Doc) : Type 0 where
    pub some_groups : NotEmpty d.groups
    pub some_transactions : All (λ (g : Group). NotEmpty g.transactions) d.groups
    pub right : All Held (items d)
    pub version : T (𝕋.version d.header)

-- ---- records that carry any text whatever at their number positions

-- r is the held record s with some text put there
abbrev pub Filled : Class → Bytes → Bytes → Type 0
Filled c s r = (x : Bytes) × Text x × (length x ≡ width c) × (put (start c) x s ≡ r)

abbrev pub Loose : List Item → List Bytes → Type 0
Loose [] [] = Unit {0}
Loose [] (r ∷ rs) = ⊥
Loose (i ∷ is) [] = ⊥
Loose (item c s ∷ is) (r ∷ rs) = Filled c s r × Loose is rs
