-- What is put on a page: "Text is made by proved functions from bytes to bytes where that is cheap (numbers,
-- columns ..)". Text is a list of bytes, in ASCII.
-- Assumes nothing.
use Rattle.std.specs.Prelude.{◌≡◌, ℕ, ◌+◌, ◌-◌, ◌≤◌, List, ◌++◌, length, replicate, Result, IsOk}
use Rattle.io.specs.Digits.{last_digits, IsDigitCount}
use Rattle.common.specs.Lists.{put}
use Rattle.pages.specs.declared.page.Page.{Page}

-- text that fits stands on the page afterwards, right behind what stood there, and nothing else has changed,
-- nor is anything amiss
unfoldable pub Puts : {E : Type 0} → Page → List ℕ → Page → Result Unit E → Type 0
Puts page text page' answer =
    page.at + length text ≤ length page.bytes
    → (page'.bytes ≡ put page.bytes page.at text) × (page'.at ≡ page.at + length text) × IsOk answer

-- a number's decimal digits, no more than it has
pub record Decimal (n : ℕ) (text : List ℕ) : Type 0 where
  pub count : ℕ
  pub fewest : IsDigitCount 10 1 n count
  pub is : text ≡ last_digits 10 count n

-- they are put
pub record PutsNumber {E : Type 0} (n : ℕ) (page page' : Page) (answer : Result Unit E) : Type 0 where
  pub text : List ℕ
  pub decimal : Decimal n text
  pub puts : Puts page text page' answer

-- the same at the right of six columns, blanks to its left, and other text behind it; it is wider where the
-- number has more digits
pub record PutsCell {E : Type 0} (n : ℕ) (after : List ℕ) (page page' : Page)
    (answer : Result Unit E) : Type 0 where
  pub text : List ℕ
  pub decimal : Decimal n text
  pub puts : Puts page (replicate (6 - length text) 32 ++ (text ++ after)) page' answer
