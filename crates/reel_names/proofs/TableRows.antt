-- Rows of a table, one after another.
use Rattle.std.proofs.Common.{◌≡◌, ℕ, Bool, true, false, ◌||◌, not, if◌then◌else◌, List, [], ◌∷◌, ◌++◌, Some, None, refl, ◌∙◌}
use Rattle.std.specs.Prelude.{bytes_eq}
use Rattle.std.proofs.lemmas.Cmp.{nat_list_eq_equiv}
use Rattle.reel_names.specs.declared.table.TableFault.TheVariants.{Again, Taken, Unfit}
use Rattle.reel_names.specs.Names.{fits}
use Rattle.reel_names.specs.Tables.{IsTable, NamedText, has_text, is_named, row_fault}

or_false : (a b : Bool) → (a || b) ≡ false → (a ≡ false) × (b ≡ false)
or_false true b h = absurd cc
or_false false b h = (refl, h)

same_bytes : (xs ys : List ℕ) → bytes_eq xs ys ≡ bytes_eq ys xs
same_bytes xs ys = nat_list_eq_equiv.symm xs ys

text_more : (rs : List NamedText) (p : NamedText) (text : List ℕ) → has_text rs text ≡ false → bytes_eq p.text text ≡ false → has_text (rs ++ p ∷ []) text ≡ false
text_more [] p text h e = rw e refl
text_more (r ∷ rs) p text h e =
    let both = or_false (bytes_eq r.text text) (has_text rs text) h in
    rw (both.0, text_more rs p text both.1 e) refl

name_more : (rs : List NamedText) (p : NamedText) (name : List ℕ) → is_named rs name ≡ false → bytes_eq p.name name ≡ false → is_named (rs ++ p ∷ []) name ≡ false
name_more [] p name h e = rw e refl
name_more (r ∷ rs) p name h e =
    let both = or_false (bytes_eq r.name name) (is_named rs name) h in
    rw (both.0, name_more rs p name both.1 e) refl

rows_more : (rs : List NamedText) (p : NamedText) → IsTable rs → fits p.name ≡ true → has_text rs p.text ≡ false → is_named rs p.name ≡ false → IsTable (rs ++ p ∷ [])
rows_more [] p rows fit text name = (fit, (refl, (refl, tt)))
rows_more (r ∷ rs) p rows fit text name =
    let texts = or_false (bytes_eq r.text p.text) (has_text rs p.text) text in
    let names = or_false (bytes_eq r.name p.name) (is_named rs p.name) name in (
      rows.0,
      (
        text_more rs p r.text rows.1.0 (same_bytes p.text r.text ∙ texts.0),
        (
          name_more rs p r.name rows.1.1.0 (same_bytes p.name r.name ∙ names.0),
          rows_more rs p rows.1.1.1 fit texts.1 names.1,
        ),
      ),
    )

no_fault : (fit there named : Bool) → (if not fit then Some Unfit else if there then Some Again else if named then Some Taken else None) ≡ None
    → (fit ≡ true) × ((there ≡ false) × (named ≡ false))
no_fault true false false h = (refl, (refl, refl))
no_fault true false true h = absurd cc
no_fault true true named h = absurd cc
no_fault false there named h = absurd cc

-- rows with one more behind them that the table takes
pub table_more : (rs : List NamedText) (p : NamedText) → IsTable rs → row_fault rs p ≡ None → IsTable (rs ++ p ∷ [])
table_more rs p rows h =
    let free = no_fault (fits p.name) (has_text rs p.text) (is_named rs p.name) h in
    rows_more rs p rows free.0 free.1.0 free.1.1
