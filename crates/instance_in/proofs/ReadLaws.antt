-- A text is read as the content whose text it is, or as none where there is no such content.
use Rattle.std.proofs.Common.{◌≡◌, ◌∙◌, subst, sym, ℕ, true, false, ◌&&◌, List, Option, Some, None, Result, Ok, Err, IfOk, option_map, bytes_eq}
use Rattle.std.proofs.lemmas.Bool.{and_parts, and_from}
use Rattle.std.proofs.lemmas.Slice.Eq.{bytes_eq-Decides}
use Rattle.ix_base.specs.declared.content.Content.{Content}
use Rattle.ix_base.specs.declared.NoMemory.{NoMemory}
use Rattle.ix_base.specs.PlainContents.{said_of}
use Rattle.ix_base.specs.Trees.{Tree}
use Rattle.page_tree.proofs.PageLaws.{one}
use Rattle.page_tree.proofs.SoundPages.{page-sound}
use Rattle.page_tree.specs.Page.{page}
use Rattle.instance_out.proofs.BackLaws.{one-text, shallow-text}
use Rattle.instance_out.proofs.SeenLaws.{denotes-one}
use Rattle.instance_lines.specs.Canonical.{canon}
use Rattle.instance_out.specs.Denotation.{content_in, denotes}
use Rattle.instance_out.specs.Proper.{is_proper}
use Rattle.instance_out.specs.Theorem.{IsTextOfTree}
use Rattle.instance_in.specs.Outcomes.{Denotes}
use Rattle.instance_in.specs.Texts.{IsTextOf}
use Rattle.instance_in.proofs.BodyLaws.{bodies-sound}

-- the text of a proper content is a page that denotes it
pub text-denotes : (bytes : List ℕ) (c : Content) → IsTextOf bytes c → IsTextOfTree bytes 258 c
text-denotes bytes c h = subst (λ b. IsTextOfTree b 258 c) h.text (shallow-text c h.proper)

-- bytes that are a page denote one content
pub same-content : (bytes : List ℕ) (c d : Content) → IsTextOfTree bytes 258 c → IsTextOfTree bytes 258 d → c ≡ d
same-content bytes c d h k =
    let tree : k.tree ≡ h.tree = one bytes 258 k.tree h.tree k.is h.is in
    denotes-one h.tree c d h.says (subst (λ t. denotes t d) tree k.says)

-- where the tree of a page denotes nothing, the bytes denote no content
pub none-denoted : (bytes : List ℕ) (t : Tree) → page bytes 258 t → None ≡ content_in t → (c : Content) → IsTextOfTree bytes 258 c → ⊥
none-denoted bytes t p n c h =
    let says : content_in t ≡ Some (said_of c) = subst (λ u. denotes u c) (one bytes 258 h.tree t h.is p) h.says in
    absurd (cc)

-- a content that is proper, and whose text the bytes are
pub text-of : (bytes : List ℕ) (c : Content) → IsTextOfTree bytes 258 c → (is_proper (said_of c) && bytes_eq (canon c) bytes) ≡ true → IsTextOf bytes c
text-of bytes c h e =
    let parts = and_parts (is_proper (said_of c)) (bytes_eq (canon c) bytes) e in
    record {
      proper = record { tested = parts.0; bodies = bodies-sound h.tree (said_of c) (page-sound bytes 258 h.tree h.is) h.says };
      text = (bytes_eq-Decides (canon c) bytes).0 parts.1;
    }

-- where the content isn't so, there is none whose text the bytes are
pub no-text : (bytes : List ℕ) (c : Content) → IsTextOfTree bytes 258 c → (is_proper (said_of c) && bytes_eq (canon c) bytes) ≡ false
    → (d : Content) → IsTextOf bytes d → ⊥
no-text bytes c h e d k =
    let same : c ≡ d = same-content bytes c d h (text-denotes bytes d k) in
    let holds : (is_proper (said_of d) && bytes_eq (canon d) bytes) ≡ true = and_from _ _ k.proper.tested ((bytes_eq-Decides (canon d) bytes).1 k.text) in
    let fails : (is_proper (said_of d) && bytes_eq (canon d) bytes) ≡ false = subst (λ x. (is_proper (said_of x) && bytes_eq (canon x) bytes) ≡ false) same e in
    absurd (cc)

pub same-text : (bytes : List ℕ) (c d : Content) → IsTextOf bytes c → IsTextOf bytes d → c ≡ d
same-text bytes c d h k = one-text c d h.proper k.proper (h.text ∙ sym k.text)

-- what the tree of a page denotes is what the bytes denote
pub denotes-by : (bytes : List ℕ) (t : Tree) → page bytes 258 t → (r : Result (Option Content) NoMemory)
    → IfOk r (λ o. option_map said_of o ≡ content_in t) → IfOk r (λ o. Denotes bytes o)
denotes-by bytes t p (Ok (Some c)) h = record { tree = t; is = p; says = sym h }
denotes-by bytes t p (Ok None) h = none-denoted bytes t p h
denotes-by bytes t p (Err e) h = tt
