mod Granted
mod Items
mod Lists
mod Objects
mod Rules
mod Taken
