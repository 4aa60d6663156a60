-- What a tree builder has led to, when more bytes come.
use Rattle.std.proofs.Common.{◌≡◌, ℕ, Bool, true, false, List, ◌++◌, Option, Some, None, is_some, drop, sym, ap, subst}
use Rattle.page_text.specs.Characters.{begun}
use Rattle.page_tree.specs.MachineSteps.{Leads, Breaks}
use Rattle.page_tree.specs.Buildings.{state_of, IsOnPage}
use Rattle.page_constructs.specs.Constructs.{Byte, spread}
use Rattle.page_tree.specs.Machine.{begin}
use Rattle.page_tree.specs.Model.{HasLedTo}
use Rattle.page_tree.specs.PendingText.{Waits, fault_at}
use Rattle.page_tree.specs.declared.pending.Pending.{Pending}
use Rattle.page_tree.specs.declared.setting.Setting.{Setting}
use Rattle.page_tree.specs.declared.settle.Break.{Break}
use Rattle.page_tree.specs.declared.tree.Building.{Building}
use Rattle.page_tree.proofs.ActingLaws.{leads-on, breaks-on}
use Rattle.page_tree.proofs.StandingLaws.{leads-read, breaks-text, breaks-read}

module _ (s : Setting) (d : Building) (p : Pending) (broken : Option Break) (b c : List ℕ) where
  -- a page that is broken stays so
  pub led-broken : (ws : List Byte) → spread (begun c) ≡ spread (begun b) ++ ws → is_some broken ≡ true → HasLedTo s d p broken b → HasLedTo s d p broken c
  led-broken ws e some h = record {
    leads = λ n. absurd (let q = ap is_some n in cc);
    breaks = λ f q. breaks-text s.depth (begun b) (begun c) ws (fault_at f) e (h.breaks f q);
    on_page = h.on_page;
  }

  -- nothing comes
  pub led-same : spread (begun c) ≡ spread (begun b) → HasLedTo s d p broken b → HasLedTo s d p broken c
  led-same e h = record {
    leads = λ n. let x = h.leads n in record { left = x.left; waits = x.waits; leads = subst (λ us. Leads false s.depth begin true us (state_of d) p.is_first x.left) (sym e) x.leads };
    breaks = λ f q. subst (λ us. Breaks false s.depth begin true us (fault_at f)) (sym e) (h.breaks f q);
    on_page = h.on_page;
  }

  -- a text comes, which then waits, too
  pub led-text : (q : Pending) (ws : List Byte) → spread (begun c) ≡ spread (begun b) ++ ws → broken ≡ None → q.is_first ≡ p.is_first
      → ((us : List Byte) → Waits p us → Waits q (us ++ ws)) → HasLedTo s d p broken b → HasLedTo s d q broken c
  led-text q ws e none first waits h = record {
    leads = λ n. let x = h.leads n in record {
      left = x.left ++ ws;
      waits = waits x.left x.waits;
      leads = subst (λ f. Leads false s.depth begin true (spread (begun c)) (state_of d) f (x.left ++ ws)) (sym first) (leads-read s.depth (state_of d) p.is_first (begun b) (begun c) x.left ws e x.leads);
    };
    breaks = λ f q. absurd (cc);
    on_page = h.on_page;
  }

-- what waits stands elsewhere in the code
pub led-moved : (s : Setting) (d : Building) (p q : Pending) (broken : Option Break) (b : List ℕ) → q.is_first ≡ p.is_first → ((us : List Byte) → Waits p us → Waits q us) → HasLedTo s d p broken b → HasLedTo s d q broken b
led-moved s d p q broken b first waits h = record {
  leads = λ n. let x = h.leads n in record {
    left = x.left;
    waits = waits x.left x.waits;
    leads = subst (λ f. Leads false s.depth begin true (spread (begun b)) (state_of d) f x.left) (sym first) x.leads;
  };
  breaks = h.breaks;
  on_page = h.on_page;
}

-- bytes come behind a break
pub led-behind : (s : Setting) (d : Building) (p : Pending) (broken : Option Break) (b piece : List ℕ) → is_some broken ≡ true → HasLedTo s d p broken b → HasLedTo s d p broken (b ++ piece)
led-behind s d p broken b piece some h = record {
  leads = λ n. absurd (let q = ap is_some n in cc);
  breaks = λ f q. breaks-read s.depth b piece (fault_at f) (h.breaks f q);
  on_page = h.on_page;
}

-- what waits is built in, from its front on
module _ (s : Setting) (d e : Building) (p q : Pending) (broken : Option Break) (b : List ℕ) (none : broken ≡ None) (on : IsOnPage s.page d → IsOnPage s.page e) (h : HasLedTo s d p broken b) where
  -- up to a place behind which the rest waits
  pub led-settled : (k : ℕ) (first : Bool) → ((us : List Byte) → Waits p us → Leads false s.depth (state_of d) p.is_first us (state_of e) first (drop k us))
      → ((us : List Byte) → Waits p us → Waits q (drop k us)) → q.is_first ≡ first → HasLedTo s e q broken b
  led-settled k first leads waits same = record {
    leads = λ n. let x = h.leads n in record {
      left = drop k x.left;
      waits = waits x.left x.waits;
      leads = subst (λ f. Leads false s.depth begin true (spread (begun b)) (state_of e) f (drop k x.left)) (sym same)
          (leads-on false s.depth begin (state_of d) (state_of e) true p.is_first first (spread (begun b)) x.left (drop k x.left) x.leads (leads x.left x.waits));
    };
    breaks = λ f q. absurd (cc);
    on_page = on h.on_page;
  }

  -- up to a break
  pub led-stopped : (x : Break) → ((us : List Byte) → Waits p us → Breaks false s.depth (state_of d) p.is_first us (fault_at x)) → HasLedTo s e q (Some x) b
  led-stopped x breaks = record {
    leads = λ n. absurd (cc);
    breaks = λ f same.
        let y = h.leads none in
        subst (λ z. Breaks false s.depth begin true (spread (begun b)) (fault_at z)) (cc)
        (breaks-on false s.depth begin (state_of d) true p.is_first (spread (begun b)) y.left (fault_at x) y.leads (breaks y.left y.waits));
    on_page = on h.on_page;
  }
