-- What lists print: the line of a network, and what comes before and after the lines, by syntax.
use Rattle.std.specs.Prelude.{◌≡◌, Bool, true, false, ℕ, ◌%◌, ◌^◌, List, [], ◌++◌, codes}
use Rattle.std.specs.Int.{w32, w128, to_be_bytes}
use Rattle.std.specs.Net.Addr.{segments_of}
use Rattle.std.specs.Net.Text.{ipv4_text, ipv6_text}
use Rattle.mmdb_net.specs.FullText.{prefix_text}
use Rattle.mmdb_blocks.specs.Kinds.{prefix_in}
use Rattle.mmdb_blocks.specs.declared.block.Block.{Block}
use Rattle.mmdb_blocks.specs.declared.kind.BlockKind.{BlockKind}
use Rattle.mmdb_blocks.specs.declared.kind.BlockKind.TheVariants.{Ipv4, Ipv6}
use Rattle.mmdb_blocks.specs.declared.kind.Kinds.{Kinds}
use Rattle.mmdb_blocks.specs.declared.kind.Kinds.TheVariants.{Both, One}
use Rattle.mmdb_blocks.specs.declared.syntax.Action.{Action}
use Rattle.mmdb_blocks.specs.declared.syntax.Action.TheVariants.{Fill, Remove, Add}
use Rattle.mmdb_blocks.specs.declared.syntax.IpsetStep.{IpsetStep}
use Rattle.mmdb_blocks.specs.declared.syntax.IpsetStep.TheVariants.{Make, Swap, Destroy}
use Rattle.mmdb_blocks.specs.declared.syntax.Syntax.{Syntax}
use Rattle.mmdb_blocks.specs.declared.syntax.Syntax.TheVariants.{Cidr, Nft, Ipset, Iptables, Nginx, Haproxy, Pf}

-- ---- networks

-- the address of a kind that is this number, of IPv4 the last 32 bits of it
abbrev pub address_text : BlockKind → ℕ → List ℕ
address_text Ipv4 first = ipv4_text (to_be_bytes w32 (first % 2 ^ 32))
address_text Ipv6 first = ipv6_text (segments_of (to_be_bytes w128 first))

-- the network of a block: its first address, `/` and how many bits its addresses share
unfoldable pub network_text : BlockKind → Block → List ℕ
network_text kind block = address_text kind block.first ++ prefix_text (prefix_in kind block.prefix)

-- ---- words of the syntaxes

-- what follows a name for the set of a kind
abbrev pub set_of : BlockKind → List ℕ
set_of Ipv4 = codes "ipv4"
set_of Ipv6 = codes "ipv6"

-- the sign of a change, before a network on a line of its own
abbrev pub sign_of : Action → List ℕ
sign_of Fill = []
sign_of Remove = codes "-"
sign_of Add = codes "+"

-- the option of iptables that lets only the program of a kind take a rule
abbrev pub option_of : BlockKind → List ℕ
option_of Ipv4 = codes " -4 -s "
option_of Ipv6 = codes " -6 -s "

-- the command of ipset for a network, what follows the name of the set there, and what follows the network
abbrev pub ipset_command : Action → List ℕ
ipset_command Fill = codes "add "
ipset_command Remove = codes "del "
ipset_command Add = codes "add "

abbrev pub ipset_front : Action → List ℕ
ipset_front Fill = codes ".new "
ipset_front Remove = codes " "
ipset_front Add = codes " "

abbrev pub ipset_back : Action → List ℕ
ipset_back Fill = codes "\n"
ipset_back Remove = codes " -exist\n"
ipset_back Add = codes " -exist\n"

-- what follows the name of a set in that of nft's definition with its elements
abbrev pub definition_of : Action → List ℕ
definition_of Fill = []
definition_of Remove = codes "_removed"
definition_of Add = codes "_added"

-- what stands between two elements of a definition, and not before the first
abbrev pub between_elements : Bool → List ℕ
between_elements true = []
between_elements false = codes ",\n"

-- ---- lines

-- what stands before the text of a network, the first of its kind or another one
abbrev pub front_of : Syntax → BlockKind → Action → Bool → List ℕ
front_of Cidr kind action is_first = sign_of action
front_of (Nft family table name) kind action is_first = between_elements is_first
front_of (Ipset name) kind action is_first = ipset_command action ++ name.now ++ codes "_" ++ set_of kind ++ ipset_front action
front_of (Iptables chain target) kind action is_first = codes "-A " ++ chain.now ++ option_of kind
front_of (Nginx variable value) kind action is_first = codes "    "
front_of (Haproxy value) kind action is_first = []
front_of Pf kind action is_first = []

-- what stands behind it
abbrev pub back_of : Syntax → Action → List ℕ
back_of Cidr action = codes "\n"
back_of (Nft family table name) action = []
back_of (Ipset name) action = ipset_back action
back_of (Iptables chain target) action = codes " -j " ++ target.now ++ codes "\n"
back_of (Nginx variable value) action = codes " " ++ value.now ++ codes ";\n"
back_of (Haproxy value) action = codes " " ++ value.now ++ codes "\n"
back_of Pf action = codes "\n"

-- the line of a network with this text, the first of its kind or another one
abbrev pub line_of : Syntax → BlockKind → Action → Bool → List ℕ → List ℕ
line_of syntax kind action is_first network = front_of syntax kind action is_first ++ network ++ back_of syntax action

-- ---- what comes before and after lines

-- what comes before the first line of a kind
abbrev pub opening_of : Syntax → BlockKind → Action → List ℕ
opening_of (Nft family table name) kind action = codes "define " ++ name.now ++ codes "_" ++ set_of kind ++ definition_of action ++ codes " = {\n"
opening_of _ kind action = []

-- what comes after the last line of a kind
abbrev pub closing_of : Syntax → List ℕ
closing_of (Nft family table name) = codes "\n}\n"
closing_of _ = []

-- what comes in place of the end of a list that is not whole: a line that haproxy and pf do not load
abbrev pub breaking_of : Syntax → List ℕ
breaking_of (Haproxy value) = codes "this-list/is-not-whole\n"
breaking_of Pf = codes "this-list/is-not-whole\n"
breaking_of _ = []

-- the text of a kind, where it is wanted
abbrev pub of_wanted : Kinds → (BlockKind → List ℕ) → BlockKind → List ℕ
of_wanted Both text kind = text kind
of_wanted (One Ipv4) text Ipv4 = text Ipv4
of_wanted (One Ipv4) text Ipv6 = []
of_wanted (One Ipv6) text Ipv4 = []
of_wanted (One Ipv6) text Ipv6 = text Ipv6

-- a text for each wanted kind, IPv4 first
abbrev pub of_kinds : Kinds → (BlockKind → List ℕ) → List ℕ
of_kinds kinds text = of_wanted kinds text Ipv4 ++ of_wanted kinds text Ipv6

-- ipset's type of a set of networks of a kind, with room for each
abbrev pub ipset_type_of : BlockKind → List ℕ
ipset_type_of Ipv4 = codes "hash:net family inet maxelem 4294967295"
ipset_type_of Ipv6 = codes "hash:net family inet6 maxelem 4294967295"

-- the line that makes the new set of a kind
abbrev pub making_of : Syntax → BlockKind → List ℕ
making_of (Ipset name) kind = codes "create " ++ name.now ++ codes "_" ++ set_of kind ++ codes ".new " ++ ipset_type_of kind ++ codes "\n"
making_of _ kind = []

-- what comes before all sets
abbrev pub head_of : Syntax → List ℕ
head_of (Iptables chain target) = codes "*filter\n:" ++ chain.now ++ codes " - [0:0]\n"
head_of (Nginx variable value) = codes "geo $" ++ variable.now ++ codes " {\n"
head_of _ = []

-- what comes before all networks
abbrev pub beginning_of : Syntax → Kinds → List ℕ
beginning_of syntax kinds = head_of syntax ++ of_kinds kinds (making_of syntax)

-- ---- the end of a list that is whole

-- a line of ipset: a set is made, if it is not there; the new set takes its place; and the old one is taken away
abbrev pub ipset_line_of : IpsetStep → List ℕ → BlockKind → List ℕ
ipset_line_of Make name kind = codes "create " ++ name ++ codes "_" ++ set_of kind ++ codes " " ++ ipset_type_of kind ++ codes " -exist\n"
ipset_line_of Swap name kind = codes "swap " ++ name ++ codes "_" ++ set_of kind ++ codes ".new \"" ++ name ++ codes "_" ++ set_of kind ++ codes "\"\n"
ipset_line_of Destroy name kind = codes "\"destroy\" \"" ++ name ++ codes "_" ++ set_of kind ++ codes ".new\"\n"

-- the lines by which the new sets of ipset take the place of the old ones
abbrev pub swaps_of : List ℕ → Kinds → List ℕ
swaps_of name kinds = of_kinds kinds (ipset_line_of Make name) ++ of_kinds kinds (ipset_line_of Swap name) ++ of_kinds kinds (ipset_line_of Destroy name)

-- what comes after all networks, of nft any text
abbrev pub IsEnding : Syntax → Kinds → Action → List ℕ → Type 0
IsEnding (Nft family table name) kinds action text = Unit {0}
IsEnding (Iptables chain target) kinds action text = text ≡ codes "COMMIT\n"
IsEnding (Nginx variable value) kinds action text = text ≡ codes "}\n"
IsEnding (Ipset name) kinds Fill text = text ≡ swaps_of name.now kinds
IsEnding (Ipset name) kinds Remove text = text ≡ []
IsEnding (Ipset name) kinds Add text = text ≡ []
IsEnding Cidr kinds action text = text ≡ []
IsEnding (Haproxy value) kinds action text = text ≡ []
IsEnding Pf kinds action text = text ≡ []
