-- Equal links and equal networks.
use Rattle.std.proofs.Common.{◌≡◌, ◌==◌, ℕ, Bool, ◌&&◌, List, IsTrue, sym, ap, ◌∙◌}
use Rattle.std.specs.Bool.{Decides}
use Rattle.std.proofs.lemmas.Bool.Decides.{Decides-and, Decides-eqb, Decides-like}
use Rattle.cut_model.specs.declared.network.Link.{Link}
use Rattle.cut_model.specs.Net.{Net}

-- what `==` computes at two links
abbrev pub link_eq : Link → Link → Bool
link_eq x y = (x.a == y.a) && ((x.b == y.b) && (x.cap == y.cap))

-- links are equal where their three parts are
pub link_eq-Decides : (x y : Link) → Decides (link_eq x y) (x ≡ y)
link_eq-Decides x y =
    Decides-like (link_eq x y)
    (λ same. λ i. record { a = same.0 i; b = same.1.0 i; cap = same.1.1 i })
    (λ e. (ap (λ (l : Link). l.a) e, (ap (λ (l : Link). l.b) e, ap (λ (l : Link). l.cap) e)))
    (Decides-and (x.a == y.a) _ (Decides-eqb x.a y.a)
    (Decides-and (x.b == y.b) _ (Decides-eqb x.b y.b) (Decides-eqb x.cap y.cap)))

-- networks with the same number of routers are equal where their links are
pub same_net : (n m : ℕ) (xs ys : List Link) (one other : Net) (r : Bool) → record { routers = n; links = xs } ≡ one
    → record { routers = m; links = ys } ≡ other → n ≡ m → Decides r (xs ≡ ys)
    → (IsTrue r → one ≡ other) × (one ≡ other → IsTrue r)
same_net n m xs ys one other r here there e same = (
  λ t. sym here ∙ (λ i. record { routers = e i; links = same.0 t i }) ∙ there,
  λ both. same.1 (ap (λ (net : Net). net.links) (here ∙ both ∙ sym there)),
)
