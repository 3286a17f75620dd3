-- A book that goes out key by key.
use Rattle.std.proofs.Common.{◌≡◌, ℕ, List, [], ◌∷◌, ◌++◌, Option, arith, append-nil, append_assoc, sym, ap, subst, ◌∙◌}
use Rattle.std.specs.Io.KnownBytes.{Appends}
use Rattle.std.proofs.lemmas.Grind.{flat_map-append}
use Rattle.usfm_ref.specs.Keys.{KeyParts}
use Rattle.op_core.specs.Ops.{Operation}
use Rattle.op_core.specs.Export.{exported_keys, export}
use Rattle.op_core.specs.CutsBack.{picked_at}
use Rattle.usfm_export.specs.Loops.Heads.{texts_at}
use Rattle.usfm_export.specs.Writing.{TakesAll, TakesFront}
use Rattle.usfm_export.proofs.Pieces.{TakesAll-nil, TakesAll-append, TakesFront-append}

-- the texts of the keys up to one are written, and those of these keys are left
pub record IsWritten (held : List Operation) (book : List ℕ) (left : List KeyParts) (a b : Option (List ℕ)) (gone : ℕ) : Type 0 where
  pub done : List KeyParts
  pub keys : done ++ left ≡ exported_keys held book
  pub taken : TakesAll a b (texts_at held book done) 0 gone

-- before the first key nothing was written
pub written_start : (held : List Operation) (book : List ℕ) (left : List KeyParts) (a : Option (List ℕ))
    → left ≡ exported_keys held book → IsWritten held book left a a 0
written_start held book left a e = record { done = []; keys = e; taken = TakesAll-nil a 0 (omega arith) }

module _ (held : List Operation) (book : List ℕ) (k : KeyParts) (left rest : List KeyParts) (e : left ≡ k ∷ rest) (text : List ℕ)
    (t : text ≡ picked_at held book k)
  where
    pub written_more : (a b c : Option (List ℕ)) (gone total : ℕ) → IsWritten held book left a b gone
        → TakesAll b c text gone total → IsWritten held book rest a c total
    written_more a b c gone total w more = record {
      done = w.done ++ (k ∷ []);
      keys = append_assoc w.done (k ∷ []) rest ∙ ap (λ (keys : List KeyParts). w.done ++ keys) (sym e) ∙ w.keys;
      taken = subst (λ (bytes : List ℕ). TakesAll a c bytes 0 total)
          (ap (λ (bytes : List ℕ). texts_at held book w.done ++ bytes) (t ∙ sym (append-nil (picked_at held book k)))
          ∙ sym (flat_map-append _ w.done (k ∷ [])))
          (TakesAll-append a b c (texts_at held book w.done) text 0 gone total w.taken more);
    }

    pub written_front : (a b c : Option (List ℕ)) (gone total : ℕ) → IsWritten held book left a b gone
        → TakesFront b c text gone total → TakesFront a c (export held book) 0 total
    written_front a b c gone total w front =
        subst (λ (bytes : List ℕ). TakesFront a c bytes 0 total)
        (ap (λ (bytes : List ℕ). texts_at held book w.done ++ (bytes ++ texts_at held book rest)) t
        ∙ sym (flat_map-append _ w.done (k ∷ rest))
        ∙ ap (texts_at held book) (ap (λ (keys : List KeyParts). w.done ++ keys) (sym e) ∙ w.keys))
        (TakesFront-append a b c (texts_at held book w.done) text (texts_at held book rest) 0 gone total w.taken front)

-- after the last key the export was written
pub written_end : (held : List Operation) (book : List ℕ) (left : List KeyParts) (a b : Option (List ℕ)) (gone : ℕ)
    → left ≡ [] → IsWritten held book left a b gone → Appends a b (export held book)
written_end held book left a b gone e w =
    let all : w.done ≡ exported_keys held book = sym (append-nil w.done)
    ∙ ap (λ (keys : List KeyParts). w.done ++ keys) (sym e) ∙ w.keys in
    subst (λ (keys : List KeyParts). Appends a b (texts_at held book keys)) all w.taken.taken
